-- Believed: the rule of the tables: the bits after the point of the roots of the primes (docs/PROTOCOL.md, "The hashes"). Assumes nothing.
use Rattle.std.specs.Prelude.{◌≡◌, ℕ, zero, suc, ◌+◌, ◌-◌, ◌*◌, ◌%◌, ◌^◌, ◌<◌, ◌≤◌, Bool, true, cond, not, ◌&&◌, List, [], ◌∷◌, ◌++◌, ◌==◌, nat_le}

-- none of 2 .. k + 1 divides n
unfoldable pub undivided : ℕ → ℕ → Bool
undivided n zero = true
undivided n (suc k) = not (n % (k + 2) == 0) && undivided n k

-- n is a prime: at least 2, and no smaller number from 2 on divides it
unfoldable pub prime : ℕ → Bool
prime n = nat_le 2 n && undivided n (n - 2)

-- the primes below n, ascending
unfoldable pub primes : ℕ → List ℕ
primes zero = []
primes (suc n) = primes n ++ cond (prime n) (n ∷ []) []

-- x is the first 64 bits after the point of the e-th root of p
pub record RootBits (e p x : ℕ) : Type 0 where
  pub c : ℕ
  pub low : c ^ e ≤ p * 2 ^ (64 * e)
  pub high : p * 2 ^ (64 * e) < (c + 1) ^ e
  pub bits : x ≡ c % 2 ^ 64
