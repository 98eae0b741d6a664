-- Proved: laws of the sum of some numbers, and of one that knows whether it passed 2^64 - 1. Assumes nothing.
use Rattle.std.specs.Prelude.{◌≡◌, refl, Bool, true, false, cond, List, [], ◌∷◌, ◌++◌, ℕ, zero, suc, ◌+◌, ◌-◌, ◌≤◌, ◌<◌, ltb, length, take, get_or, Option, Some, None}
use Rattle.std.proofs.Common.{ap, ◌∙◌, add-zero, add-one, arith, take-suc, ltb-true}
use Rattle.octets.specs.Sums.{sum_of, largest_total, plus_of, SumIs}

sum_append : (a b : List ℕ) → sum_of (a ++ b) ≡ sum_of a + sum_of b
unfolding sum_of
sum_append [] b = omega arith
sum_append (x ∷ a) b = omega (arith, sum_append a b)

-- the sum of the first numbers of a list: one number more, and never more than that of all
pub sum_more : (l : List ℕ) (i : ℕ) → i < length l → sum_of (take (i + 1) l) ≡ sum_of (take i l) + get_or l i 0
unfolding sum_of
sum_more l i h =
    ap (λ (n : ℕ). sum_of (take n l)) (add-one i)
    ∙ ap sum_of (take-suc l i 0 h)
    ∙ sum_append (take i l) (get_or l i 0 ∷ [])
    ∙ ap (λ (n : ℕ). sum_of (take i l) + n) (add-zero (get_or l i 0))

pub sum_part : (l : List ℕ) (i : ℕ) → sum_of (take i l) ≤ sum_of l
unfolding sum_of
sum_part l zero = omega arith
sum_part [] (suc i) = omega arith
sum_part (n ∷ l) (suc i) = omega (arith, sum_part l i)

-- one number more of a sum that knows whether it passed
pub plus_is : (a : Option ℕ) (x t : ℕ) → SumIs a t → SumIs (plus_of a x) (t + x)
plus_is None x t h = omega arith
plus_is (Some n) x t h = by_case (ltb (largest_total - n) x) refl
  where
    by_case : (b : Bool) → ltb (largest_total - n) x ≡ b → SumIs (cond b None (Some (n + x))) (t + x)
    by_case true e = omega (arith, ltb-true (largest_total - n) x e)
    by_case false e = omega arith

-- A sum that is none passed the largest total.
pub sum_over : (a : Option ℕ) (t : ℕ) → SumIs a t → a ≡ None → largest_total < t
sum_over a t h e = rw e at h

-- A sum that is a number is the total.
pub sum_within : (a : Option ℕ) (n t : ℕ) → SumIs a t → a ≡ Some n → n ≡ t
sum_within a n t h e = rw e at h
