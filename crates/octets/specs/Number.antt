-- Believed: numbers as bytes, big-endian. Assumes nothing.
pub mod Laws
pub mod Spelled
use Rattle.std.specs.Prelude.{List, [], ◌∷◌, ◌++◌, ℕ, zero, suc, ◌+◌, ◌*◌, ◌/◌, ◌%◌, take, drop}

-- the number whose bytes are those of n and then the list
unfoldable pub onto : ℕ → List ℕ → ℕ
onto n [] = n
onto n (x ∷ xs) = onto (n * 256 + x) xs

-- the number that the list's bytes make
unfoldable pub number : List ℕ → ℕ
number xs = onto 0 xs

-- the number of n bytes from a place on
abbrev pub number_at : List ℕ → ℕ → ℕ → ℕ
number_at s at n = number (take n (drop at s))

-- the k lowest bytes of n
unfoldable pub bytes : ℕ → ℕ → List ℕ
bytes zero n = []
bytes (suc k) n = bytes k (n / 256) ++ (n % 256 ∷ [])
