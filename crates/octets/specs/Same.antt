-- Believed: comparing: what the answer tells of two lists. Assumes nothing.
pub mod Laws
use Rattle.std.specs.Prelude.{◌≡◌, Bool, true, false, ◌&&◌, List, [], ◌∷◌, ℕ, eqb}

-- the test of two lists, element by element
unfoldable pub equal : List ℕ → List ℕ → Bool
equal [] [] = true
equal [] (y ∷ b) = false
equal (x ∷ a) [] = false
equal (x ∷ a) (y ∷ b) = eqb x y && equal a b

-- the answer is true exactly where the two are equal
pub record Tells (answer : Bool) (a b : List ℕ) : Type 0 where
  pub true_equal : answer ≡ true → a ≡ b
  pub equal_true : a ≡ b → answer ≡ true
