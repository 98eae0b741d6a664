-- `hash::soundness::is_sound`: one part of the test after the other. Assumes nothing.
use Rattle.std.proofs.Common.{◌≡◌, ◌&&◌, sym, ap, ◌∙◌, arith, le-leb}
use Rattle.std.proofs.lemmas.Bool.{lt-leb}
use Rattle.octets.specs.Every.{all_zero}
use Rattle.octets.specs.Parts.{part_all}
use Rattle.algorithm.specs.Refusals.{most_bytes}
use Rattle.hash.specs.State.{fit, sound_of}
use Rattle.hash.specs.State.Laws.{sound_is}
use Rattle.hash.proofs.soundness.is_sound.Goals as goal
use Rattle.hash.proofs.soundness.is_sound.Goals.{Joined-state-le-MOST_BYTES, then-state-le-MOST_BYTES, else-state-le-MOST_BYTES}

-- the parts before the words
begun : (c : Joined-state-le-MOST_BYTES)
    → sound_of c.args.state.now ≡ (c.if-state-le-MOST_BYTES.value && fit c.args.state.now.hash c.args.state.now.words)
begun c =
    let s = c.args.state.now in
    elim c.if-state-le-MOST_BYTES.branch [
      | then-state-le-MOST_BYTES w ↦
          let clear = w.all_zero.ensures ∙ ap all_zero (part_all s.waiting 128 c.waiting_count-at.result (omega arith)) in
          rw (w.value-is, clear, c.waiting_count-at.ensures, sound_is, le-leb s.count most_bytes w.if-state-le-MOST_BYTES.true)
      | else-state-le-MOST_BYTES w ↦ rw (w.value-is, sound_is, lt-leb s.count most_bytes w.if-state-le-MOST_BYTES.false)
    ]

pub returns-then-all_zero : goal.returns-then-all_zero
returns-then-all_zero c =
    let e = begun (goal.at.returns-then-all_zero c).Joined-state-le-MOST_BYTES in
    c.words_fit.ensures ∙ sym (rw c.if-all_zero.true at e)

pub returns-else-all_zero : goal.returns-else-all_zero
returns-else-all_zero c =
    let e = begun (goal.at.returns-else-all_zero c).Joined-state-le-MOST_BYTES in
    c.if-all_zero.false ∙ sym (rw c.if-all_zero.false at e)
