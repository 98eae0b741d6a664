-- `hash::narrow::U32Word::ch` is the definition's, spelled with fewer operations. Assumes nothing.
use Rattle.hash.specs.Description.{narrow}
use Rattle.hash.proofs.Word.{ch_code}
use Rattle.hash.proofs.narrow.U32Word.ch.Goals as goal

pub returns : goal.returns
unfolding narrow
returns c = ch_code 32 c.args.x c.args.y c.args.z c.ranges.x.fits c.ranges.z.fits
