-- `stream::totals::in_range` meets its contract. Assumes nothing.
use Rattle.std.proofs.Common.{arith}
use Rattle.std.proofs.lemmas.Grind.{common_steps}
use Rattle.stream.specs.Stream.{in_range}
use Rattle.stream.proofs.totals.in_range.Goals as goal

pub returns : goal.returns
unfolding in_range
returns c = grind (arith, common_steps)
