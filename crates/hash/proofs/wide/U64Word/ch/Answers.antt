-- `hash::wide::U64Word::ch` is the definition's, spelled with fewer operations. Assumes nothing.
use Rattle.hash.specs.Description.{wide}
use Rattle.hash.proofs.Word.{ch_code}
use Rattle.hash.proofs.wide.U64Word.ch.Goals as goal

pub returns : goal.returns
unfolding wide
returns c = ch_code 64 c.args.x c.args.y c.args.z c.ranges.x.fits c.ranges.z.fits
