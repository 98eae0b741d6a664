-- `hash::narrow::U32Word::big0` is three nested rotations. Assumes nothing.
use Rattle.std.proofs.Common.{lit≤}
use Rattle.hash.specs.Description.{narrow}
use Rattle.hash.specs.Sha2.{big0}
use Rattle.hash.proofs.Word.{big_code}
use Rattle.hash.proofs.narrow.U32Word.big0.Goals as goal

pub returns : goal.returns
unfolding big0 narrow
returns c =
    big_code 32 narrow.big0_by c.args.x (lit≤ tt) (lit≤ tt) (lit≤ tt) c.ranges.x.fits c.rotate_right.ensures
    c.rotate_right-2.ensures c.rotate_right-3.ensures
