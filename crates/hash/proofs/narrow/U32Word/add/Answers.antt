-- `hash::narrow::U32Word::add` is the sum modulo 2 ^ 32. Assumes nothing.
use Rattle.hash.specs.Description.{narrow}
use Rattle.hash.proofs.narrow.U32Word.add.Goals as goal

pub returns : goal.returns
unfolding narrow
returns c = c.wrapping_add_u32.ensures.value
