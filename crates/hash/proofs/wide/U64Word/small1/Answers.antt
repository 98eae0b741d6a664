-- `hash::wide::U64Word::small1` is two nested rotations and a shift. Assumes nothing.
use Rattle.std.proofs.Common.{lit≤}
use Rattle.hash.specs.Description.{wide}
use Rattle.hash.specs.Sha2.{small1}
use Rattle.hash.proofs.Word.{small_code}
use Rattle.hash.proofs.wide.U64Word.small1.Goals as goal

pub returns : goal.returns
unfolding small1 wide
returns c =
    small_code 64 wide.small1_by c.args.x (lit≤ tt) (lit≤ tt) c.ranges.x.fits c.rotate_right.ensures c.rotate_right-2.ensures
