-- The law of a hash that is asked for by its number, and of the size of its digest. Assumes nothing.
use Rattle.std.specs.Prelude.{◌≡◌, true, ℕ, Ok}
use Rattle.std.proofs.Common.{refl, sym, ap, ◌∙◌}
use Rattle.algorithm.specs.declared.hashes.Hash.{Hash}
use Rattle.algorithm.specs.Hashes.{names, hash_of, size_of}
use Rattle.algorithm.specs.Calls.{WhichOutcome}
use Rattle.algorithm.specs.Calls.Laws.{which_is}

pub sized : (n : ℕ) (h : Hash) {size : ℕ} → WhichOutcome n (Ok h) → size ≡ size_of h → (names n ≡ true) × (size ≡ size_of (hash_of n))
sized n h o e = let known = which_is n o h refl in (known.0, e ∙ ap size_of (sym known.1))
