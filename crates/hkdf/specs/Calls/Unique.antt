-- Proved: no second outcome: what meets the outcome predicate of a call, as its contract cites it, is one. Assumes nothing.
use Rattle.std.specs.Prelude.{◌≡◌, List, ℕ}
use Rattle.algorithm.specs.Checks.Laws.{one_outcome}
use Rattle.hkdf.specs.Calls.{ExtractOutcome, ExpandOutcome}

pub extract_unique : (n : ℕ) (salt ikm out : List ℕ) (r r' : ℕ) (o o' : List ℕ)
    → ExtractOutcome n salt ikm out r o → ExtractOutcome n salt ikm out r' o' → ◌≡◌ {A = ℕ × List ℕ} (r, o) (r', o')
extract_unique n salt ikm out r r' o o' = one_outcome

pub expand_unique : (n : ℕ) (prk info out : List ℕ) (r r' : ℕ) (o o' : List ℕ)
    → ExpandOutcome n prk info out r o → ExpandOutcome n prk info out r' o' → ◌≡◌ {A = ℕ × List ℕ} (r, o) (r', o')
expand_unique n prk info out r r' o o' = one_outcome
