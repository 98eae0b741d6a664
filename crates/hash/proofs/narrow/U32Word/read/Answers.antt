-- `hash::narrow::U32Word::read` is the number of four bytes. Assumes nothing.
use Rattle.std.proofs.Common.{arith}
use Rattle.octets.specs.Number.Laws.{number_none, number_more}
use Rattle.hash.proofs.narrow.U32Word.read.Goals as goal

pub returns : goal.returns
returns c =
    let b = c.args.b.now in
    let at = c.args.at in
    grind (arith, c.from_be_bytes.ensures, number_none b at, number_more b at 0, number_more b at 1, number_more b at 2, number_more b at 3)
