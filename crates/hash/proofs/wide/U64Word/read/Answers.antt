-- `hash::wide::U64Word::read` is the number of eight bytes. Assumes nothing.
use Rattle.std.proofs.Common.{arith}
use Rattle.octets.specs.Number.Laws.{number_none, number_more}
use Rattle.hash.proofs.wide.U64Word.read.Goals as goal

pub returns : goal.returns
returns c =
    let more = number_more c.args.b.now c.args.at in
    grind (arith, c.from_be_bytes.ensures, number_none c.args.b.now c.args.at, more 0, more 1, more 2, more 3, more 4, more 5, more 6, more 7)
