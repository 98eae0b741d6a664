-- Proved: laws of what asking for the hash of a number answers, for the layers above: whether the number names a hash, and which.
-- Assumes nothing.
use Rattle.std.specs.Prelude.{◌≡◌, refl, Bool, true, false, ℕ, Result, Ok, Err}
use Rattle.std.specs.Result.{result_or}
use Rattle.std.proofs.Common.{sym, ap, ◌∙◌}
use Rattle.algorithm.specs.Hashes.{names, hash_number, hash_of, which_of}
use Rattle.algorithm.specs.Hashes.Laws.{unknown, known}
use Rattle.algorithm.specs.Refusals.{unknown_hash}
use Rattle.algorithm.specs.Answers.{number_of}
use Rattle.algorithm.specs.Answers.Laws.{refusal_unique, refusal_not_done}
use Rattle.algorithm.specs.Checks.{first_failing, decided}
use Rattle.algorithm.specs.Calls.{answer_of, which_checks, WhichOutcome}
use Rattle.algorithm.specs.declared.hashes.Hash.{Hash}
use Rattle.algorithm.specs.declared.hashes.Hash.TheVariants.{Sha256, Sha512}
use Rattle.algorithm.specs.declared.refusals.Refusal.{Refusal}
use Rattle.algorithm.specs.declared.refusals.Refusal.TheVariants.{UnknownHash}

-- the value of an answer says which answer it is: a hash is the one that its number names, and the 0 of a refusal names none
named_back : (r : Result Hash Refusal) → which_of (answer_of r).1 ≡ result_or r (Err UnknownHash)
named_back (Ok Sha256) = refl
named_back (Ok Sha512) = refl
named_back (Err e) = refl

-- so the promise fixes the answer
pub which_told : (n : ℕ) {r : Result Hash Refusal} → WhichOutcome n r → r ≡ which_of n
which_told n {r} o = by_case r (names n) refl o
  where
    by_case : (r : Result Hash Refusal) (b : Bool) → names n ≡ b → WhichOutcome n r → r ≡ which_of n
    by_case (Ok h) true e o =
        let d : decided (which_checks n) n 0 ≡ n = rw e in
        sym (named_back (Ok h)) ∙ ap (λ (a : ℕ × ℕ). which_of a.1) o ∙ ap which_of d
    by_case (Ok h) false e o =
        let f : first_failing (which_checks n) ≡ unknown_hash = rw e in
        absurd (refusal_not_done UnknownHash (sym (ap (λ (a : ℕ × ℕ). a.0) o ∙ f)))
    by_case (Err x) true e o =
        let f : first_failing (which_checks n) ≡ 0 = rw e in
        absurd (refusal_not_done x (ap (λ (a : ℕ × ℕ). a.0) o ∙ f))
    by_case (Err x) false e o =
        let f : first_failing (which_checks n) ≡ unknown_hash = rw e in
        let none : which_of n ≡ Err UnknownHash = rw e in
        ap Err (refusal_unique x UnknownHash (ap (λ (a : ℕ × ℕ). a.0) o ∙ f)) ∙ sym none

module _ (n : ℕ) {r : Result Hash Refusal} (o : WhichOutcome n r) where
  pub which_unknown : (e : Refusal) → r ≡ Err e → (names n ≡ false) × (e ≡ UnknownHash)
  which_unknown e q = let u = unknown (names n) (hash_of n) UnknownHash e (sym (which_told n o) ∙ q) in (u.0, sym u.1)

  pub which_is : (h : Hash) → r ≡ Ok h → (names n ≡ true) × (hash_of n ≡ h)
  which_is h q = known (names n) (hash_of n) h UnknownHash (sym (which_told n o) ∙ q)
