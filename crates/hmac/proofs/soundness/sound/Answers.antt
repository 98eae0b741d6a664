-- `hmac::soundness::sound`: the length decides where the other parts hold, and each of them alone refuses. Assumes nothing.
use Rattle.std.proofs.Common.{sym, ◌∙◌}
use borrow.Author.Tests.{leb-true, leb-false}
use Rattle.hmac.specs.Keyed.Open.{sound_by_length}
use Rattle.hmac.specs.Keyed.Laws.{unsound_inner, unsound_outer, unsound_count}
use Rattle.hmac.proofs.soundness.sound.Goals as goal
use Rattle.hmac.proofs.soundness.sound.Goals.{then-sound, else-sound, then-sound-2, else-sound-2}

pub returns-then-block_size-keyed : goal.returns-then-block_size-keyed
returns-then-block_size-keyed c =
    c.length_allowed.ensures
    ∙ sym (elim c.if-sound-2.branch [
      | then-sound-2 counted ↦ elim c.if-sound.branch [
        | then-sound w ↦ sound_by_length c.args.keyed (cc) (cc) (leb-true _ _ (cc))
        | else-sound w ↦ cc
      ]
      | else-sound-2 w ↦ cc
    ])

pub returns-else-block_size-keyed : goal.returns-else-block_size-keyed
returns-else-block_size-keyed c =
    c.if-block_size-keyed.false
    ∙ sym (elim c.if-sound-2.branch [
      | then-sound-2 w ↦ unsound_count c.args.keyed (leb-false _ _ (cc))
      | else-sound-2 w ↦ elim c.if-sound.branch [
        | then-sound v ↦ unsound_outer c.args.keyed (cc)
        | else-sound v ↦ unsound_inner c.args.keyed (cc)
      ]
    ])
