-- Believed: a test of every element of a list. Assumes nothing.
pub mod Laws
use Rattle.std.specs.Prelude.{Bool, true, ◌&&◌, List, [], ◌∷◌, ℕ, eqb, ltb}

-- whether each element passes the test
unfoldable pub every : (ℕ → Bool) → List ℕ → Bool
every p [] = true
every p (x ∷ xs) = p x && every p xs

-- whether each element is zero
abbrev pub all_zero : List ℕ → Bool
all_zero l = every (λ x. eqb x 0) l

-- whether each element is a byte
abbrev pub all_bytes : List ℕ → Bool
all_bytes l = every (λ x. ltb x 256) l
