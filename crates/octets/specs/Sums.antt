-- Believed: the sum of some numbers, and one that knows whether it passed 2^64 - 1. Assumes nothing.
pub mod Laws
use Rattle.std.specs.Prelude.{◌≡◌, cond, List, [], ◌∷◌, ℕ, ◌+◌, ◌-◌, ◌<◌, ltb, Option, Some, None}

-- the sum of some numbers
unfoldable pub sum_of : List ℕ → ℕ
sum_of [] = 0
sum_of (n ∷ l) = n + sum_of l

-- the largest total, 2^64 - 1
abbrev pub largest_total : ℕ
largest_total = 18446744073709551615

-- the sum of nothing, of those that know whether they passed the largest total: then there is none
abbrev pub no_sum : Option ℕ
no_sum = Some 0

-- one number more: none where there was none, or where the total would pass the largest
abbrev pub plus_of : Option ℕ → ℕ → Option ℕ
plus_of None x = None
plus_of (Some t) x = cond (ltb (largest_total - t) x) None (Some (t + x))

-- what a sum says of the number that all its numbers come to: that it passed the largest total, or that it is the total
abbrev pub SumIs : Option ℕ → ℕ → Type 0
SumIs None t = largest_total < t
SumIs (Some n) t = n ≡ t
