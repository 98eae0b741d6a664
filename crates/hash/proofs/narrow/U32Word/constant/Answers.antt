-- `hash::narrow::U32Word::constant` is the upper half of an entry of the table. Assumes nothing.
use Rattle.std.proofs.Common.{arith}
use Rattle.hash.specs.Description.{narrow}
use Rattle.hash.proofs.Rounds.{k32_at}
use Rattle.hash.proofs.narrow.U32Word.constant.Goals as goal

pub at-requires : goal.at-requires
unfolding narrow
at-requires c = omega arith

pub returns : goal.returns
unfolding narrow
returns c = k32_at c.args.t c.requires c.at.ensures c.upper.ensures
