-- `hash::step::advance` is a round and the ring one word on. Assumes nothing.
use Rattle.std.proofs.Common.{ℕ, List, map, ap, ◌∙◌, ap₂, lit<}
use Rattle.hash.specs.Ring.{round_at, advance}
use Rattle.hash.proofs.Rounds.{at}
use Rattle.hash.proofs.step.advance.Goals as goal

pub returns : goal.returns
unfolding advance
returns g c =
    let value = g.W.Word.value in
    let progress = c.args.progress in
    ap₂ (λ (v x : List ℕ). (v, x))
    (c.round_at.ensures
    ∙ ap (round_at g.W.Word.core (map value progress.variables) c.args.t) (at value progress.ring c.well_formed.0.1.1.1.1.0.1.0.1 0 _ (lit< tt)))
    c.slide.ensures
