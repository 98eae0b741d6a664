-- Believed: checks in their order: the first that fails gives the number, and decides between the work and what was given.
-- Assumes nothing.
pub mod Laws
use Rattle.std.specs.Prelude.{◌≡◌, Bool, true, false, cond, List, [], ◌∷◌, ℕ, eqb}
use Rattle.algorithm.specs.Refusals.{done}

-- a check, and the number that comes back where it fails
pub record Check : Type 0 where
  pub passes : Bool
  pub number : ℕ

abbrev pub check : Bool → ℕ → Check
check b n = record { passes = b; number = n }

-- the number of the first check that fails, and `done` where none does
abbrev pub first_failing : List Check → ℕ
first_failing [] = done
first_failing (c ∷ cs) = cond c.passes (first_failing cs) c.number

-- what a call leaves: the work where no check fails, else what was given
abbrev pub decided {ℓ} : {A : Type ℓ} → List Check → A → A → A
decided cs work given = cond (eqb (first_failing cs) done) work given

-- a number and an output
abbrev pub written : ℕ → List ℕ → ℕ × List ℕ
written n out = (n, out)

-- the number and the output of a call
abbrev pub answered : List Check → List ℕ → List ℕ → ℕ × List ℕ
answered cs work given = (first_failing cs, decided cs work given)

-- every check passes
pub data Pass : List Check → Type 0 where
  all : Pass []
  and : {c : Check} {cs : List Check} → c.passes ≡ true → Pass cs → Pass (c ∷ cs)

-- the check with this number fails, and every earlier one passes
pub data Fail : List Check → ℕ → Type 0 where
  here : {c : Check} {cs : List Check} → c.passes ≡ false → Fail (c ∷ cs) c.number
  later : {c : Check} {cs : List Check} {n : ℕ} → c.passes ≡ true → Fail cs n → Fail (c ∷ cs) n

-- no check that fails has the number of a call that is done
pub data Refusing : List Check → Type 0 where
  none : Refusing []
  more : {c : Check} {cs : List Check} → (c.passes ≡ false → c.number ≡ done → ⊥) → Refusing cs → Refusing (c ∷ cs)
