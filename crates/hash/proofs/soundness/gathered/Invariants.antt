-- `hash::soundness::gathered`: one word a turn. Assumes nothing.
use Rattle.std.proofs.Common.{◌≡◌, ℕ, ◌^◌, ltb, take}
use Rattle.octets.specs.Every.{every}
use Rattle.hash.proofs.soundness.gathered.Given as goal

abbrev pub invariant-loop-word : goal.invariant-loop-word
invariant-loop-word l = (w : ℕ) → ltb l.bits (2 ^ w) ≡ every (λ x. ltb x (2 ^ w)) (take l.word-index l.fn.words)
