-- `hash::wide::U64Word::constant` is an entry of the table. Assumes nothing.
use Rattle.std.proofs.Common.{arith}
use Rattle.hash.specs.Description.{wide}
use Rattle.hash.proofs.wide.U64Word.constant.Goals as goal

pub at-requires : goal.at-requires
unfolding wide
at-requires c = omega arith

pub returns : goal.returns
unfolding wide
returns c = c.at.ensures
