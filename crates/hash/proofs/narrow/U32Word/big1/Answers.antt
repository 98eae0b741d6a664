-- `hash::narrow::U32Word::big1` is three nested rotations. Assumes nothing.
use Rattle.std.proofs.Common.{lit≤}
use Rattle.hash.specs.Description.{narrow}
use Rattle.hash.specs.Sha2.{big1}
use Rattle.hash.proofs.Word.{big_code}
use Rattle.hash.proofs.narrow.U32Word.big1.Goals as goal

pub returns : goal.returns
unfolding big1 narrow
returns c =
    big_code 32 narrow.big1_by c.args.x (lit≤ tt) (lit≤ tt) (lit≤ tt) c.ranges.x.fits c.rotate_right.ensures
    c.rotate_right-2.ensures c.rotate_right-3.ensures
