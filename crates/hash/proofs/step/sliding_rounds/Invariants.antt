-- `hash::step::sliding_rounds` makes eight rounds a turn. Assumes nothing.
use Rattle.std.proofs.Common.{◌≡◌, ◌*◌, map}
use Rattle.hash.specs.Ring.{progress_at}
use Rattle.hash.proofs.step.sliding_rounds.Given as goal

abbrev pub invariant-loop-i : goal.invariant-loop-i
invariant-loop-i g l =
    let numbers = map g.W.Word.value in
    (numbers l.progress.variables, numbers l.progress.ring) ≡ progress_at g.W.Word.core (numbers l.initial.progress.variables) l.b (8 * l.i)
