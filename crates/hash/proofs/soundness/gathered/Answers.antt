-- `hash::soundness::gathered`: one word a turn. Assumes nothing.
use Rattle.std.proofs.Common.{◌^◌, Bool, ◌&&◌, ltb, get_or, sym, ap, ◌∙◌, arith, pow_pos, lt-ltb}
use Rattle.octets.specs.Every.{every}
use Rattle.octets.specs.Every.Laws.{every_more}
use Rattle.hash.proofs.Word.{or_fits}
use Rattle.hash.proofs.soundness.gathered.Goals as goal

pub loop-word-init : goal.loop-word-init
unfolding every
loop-word-init c = λ w. lt-ltb 0 (2 ^ w) (pow_pos w)

pub loop-word-preserved : goal.loop-word-preserved
loop-word-preserved c =
    let at = c.loop-word in
    let words = c.args.words in
    let i = at.word-index in
    λ w.
    or_fits w at.bits (get_or words i 0)
    ∙ ap (λ (b : Bool). b && ltb (get_or words i 0) (2 ^ w)) (at.invariant w)
    ∙ sym (every_more (λ x. ltb x (2 ^ w)) words i (omega arith))
