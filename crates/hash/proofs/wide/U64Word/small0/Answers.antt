-- `hash::wide::U64Word::small0` is two nested rotations and a shift. Assumes nothing.
use Rattle.std.proofs.Common.{lit≤}
use Rattle.hash.specs.Description.{wide}
use Rattle.hash.specs.Sha2.{small0}
use Rattle.hash.proofs.Word.{small_code}
use Rattle.hash.proofs.wide.U64Word.small0.Goals as goal

pub returns : goal.returns
unfolding small0 wide
returns c =
    small_code 64 wide.small0_by c.args.x (lit≤ tt) (lit≤ tt) c.ranges.x.fits c.rotate_right.ensures c.rotate_right-2.ensures
