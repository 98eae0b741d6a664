-- `hash::wide::U64Word::add` is the sum modulo 2 ^ 64. Assumes nothing.
use Rattle.hash.specs.Description.{wide}
use Rattle.hash.proofs.wide.U64Word.add.Goals as goal

pub returns : goal.returns
unfolding wide
returns c = c.wrapping_add_u64.ensures.value
