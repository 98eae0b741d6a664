-- `hash::step::step` is the definition's, from its parts. Assumes nothing.
use Rattle.std.proofs.Common.{map}
use Rattle.hash.proofs.Rounds.{step_code}
use Rattle.hash.proofs.step.step.Goals as goal

pub returns : goal.returns
returns g c = step_code g.W.Word.core (map g.W.Word.value c.args.s) c.args.b.now c.rounds.ensures c.sums.ensures
