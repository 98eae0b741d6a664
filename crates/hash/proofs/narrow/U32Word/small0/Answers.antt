-- `hash::narrow::U32Word::small0` is two nested rotations and a shift. Assumes nothing.
use Rattle.std.proofs.Common.{lit≤}
use Rattle.hash.specs.Description.{narrow}
use Rattle.hash.specs.Sha2.{small0}
use Rattle.hash.proofs.Word.{small_code}
use Rattle.hash.proofs.narrow.U32Word.small0.Goals as goal

pub returns : goal.returns
unfolding small0 narrow
returns c =
    small_code 32 narrow.small0_by c.args.x (lit≤ tt) (lit≤ tt) c.ranges.x.fits c.rotate_right.ensures c.rotate_right-2.ensures
