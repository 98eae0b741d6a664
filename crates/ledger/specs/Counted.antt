-- Believed: what a sequence of submissions counts in an empty ledger of n records, from the sequence alone (docs/PROTOCOL.md, "The
-- ledger"). Assumes nothing.
use Rattle.std.specs.Prelude.{Bool, false, not, cond, ◌&&◌, ◌||◌, List, [], ◌∷◌, ◌++◌, ℕ, ◌+◌, eqb, leb, ltb, length}
use Rattle.octets.specs.Same.{equal}
use Rattle.octets.specs.Sums.{largest_total}
use Rattle.algorithm.specs.Refusals.{done}
use Rattle.algorithm.specs.Checks.{first_failing}
use Rattle.ledger.specs.Calls.{Submission, fingerprint_in, live_in, report_checks}

-- the fingerprints taken so far, in order, and the sum of their reports' live bytes
pub record Count : Type 0 where
  pub fingerprints : List (List ℕ)
  pub sum : ℕ

abbrev pub nothing : Count
nothing = record { fingerprints = []; sum = 0 }

-- a fingerprint is one of some
unfoldable pub is_among : List ℕ → List (List ℕ) → Bool
is_among f [] = false
is_among f (g ∷ gs) = equal g f || is_among f gs

-- reading, tag and keys are good
abbrev pub is_good : Submission → Bool
is_good x = eqb (first_failing (report_checks x)) done

-- a report is taken where it is good, its fingerprint is not taken yet, fewer than n are, and the sum fits
abbrev pub takes : ℕ → Count → Submission → Bool
takes n c x =
    is_good x
    && (not (is_among (fingerprint_in x) c.fingerprints)
    && (ltb (length c.fingerprints) n && leb (c.sum + live_in x) largest_total))

abbrev pub with_one : Count → Submission → Count
with_one c x = record { fingerprints = c.fingerprints ++ (fingerprint_in x ∷ []); sum = c.sum + live_in x }

-- the sequence, walked in order
unfoldable pub count_from : ℕ → Count → List Submission → Count
count_from n c [] = c
count_from n c (x ∷ xs) = count_from n (cond (takes n c x) (with_one c x) c) xs

-- the fingerprints taken, and the counted total
unfoldable pub taken_in : ℕ → List Submission → List (List ℕ)
taken_in n xs = (count_from n nothing xs).fingerprints

unfoldable pub counted : ℕ → List Submission → ℕ
counted n xs = (count_from n nothing xs).sum
