-- `hash::blocks::words_after` takes one run a turn. Assumes nothing.
use Rattle.std.proofs.Common.{◌≡◌, true}
use Rattle.hash.specs.State.{fit}
use Rattle.hash.proofs.TwoRuns.{words_at, run_at}
use Rattle.hash.proofs.blocks.words_after.Given as goal

abbrev pub invariant-loop : goal.invariant-loop
invariant-loop l =
    (fit l.hash l.v ≡ true) × (l.v ≡ words_at l.hash l.initial.v l.first l.second l.counter) × (l.run ≡ run_at l.first l.second l.counter)
