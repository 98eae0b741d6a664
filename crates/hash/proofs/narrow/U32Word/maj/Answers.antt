-- `hash::narrow::U32Word::maj` is the definition's, spelled with fewer operations. Assumes nothing.
use Rattle.hash.proofs.Bits.{majority}
use Rattle.hash.proofs.narrow.U32Word.maj.Goals as goal

pub returns : goal.returns
returns c = majority c.args.x c.args.y c.args.z
