-- `hash::step::after_run` takes one block a turn. Assumes nothing.
use Rattle.std.proofs.Common.{map}
use Rattle.hash.proofs.Loops.{Taken}
use Rattle.hash.proofs.step.after_run.Given as goal

abbrev pub invariant-loop-block : goal.invariant-loop-block
invariant-loop-block g l =
    let left = l.block-iterator in
    Taken g.W.Word.core l.run (map g.W.Word.value l.initial.v) (map g.W.Word.value l.v) left.rest.now left.size
