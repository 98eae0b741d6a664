-- Proved: laws of a test of every element, and of zeros. Assumes nothing.
use Rattle.std.specs.Prelude.{◌≡◌, Bool, true, false, ◌&&◌, eqb, length, get_or, take, drop, replicate}
use Rattle.std.proofs.Math.Path.{refl, sym, ap}
use Rattle.std.proofs.Common.{◌∙◌, true≢false, le_of_suc-le-suc, not-suc-le-zero, add-one, take-append-drop, length-drop, take-suc, eqb-true}
use Rattle.std.proofs.Math.Bool.{and-true, and_assoc}
use mathlib.Core.List.{List, [], ◌∷◌, ◌++◌}
use Prim.Native.Nat.{ℕ, zero, suc, ◌+◌, ◌-◌, ◌<◌}
use Rattle.std.proofs.lemmas.List.{length-replicate}
use Rattle.octets.specs.Every.{every, all_zero}

-- both parts of a test that is true
pub and_parts : (a b : Bool) → (a && b) ≡ true → (a ≡ true) × (b ≡ true)
and_parts true b h = (refl, h)
and_parts false b h = absurd (true≢false (sym h))

-- a test that is not true is false
pub refuted : (b : Bool) → (b ≡ true → ⊥) → b ≡ false
refuted true z = absurd (z refl)
refuted false z = refl

module _ (p : ℕ → Bool) where
  pub every_append : (a b : List ℕ) → every p (a ++ b) ≡ (every p a && every p b)
  unfolding every
  every_append [] b = refl
  every_append (x ∷ a) b = ap (λ (r : Bool). p x && r) (every_append a b) ∙ sym (and_assoc (p x) (every p a) (every p b))

  -- one element more, as a loop goes
  pub every_more : (l : List ℕ) (i : ℕ) → i < length l → every p (take (i + 1) l) ≡ (every p (take i l) && p (get_or l i 0))
  unfolding every
  every_more l i h =
      ap (λ (n : ℕ). every p (take n l)) (add-one i)
      ∙ ap (every p) (take-suc l i 0 h)
      ∙ every_append (take i l) (get_or l i 0 ∷ [])
      ∙ ap (λ (b : Bool). every p (take i l) && b) (and-true (p (get_or l i 0)))

  pub every_drop : (n : ℕ) (l : List ℕ) → every p l ≡ true → every p (drop n l) ≡ true
  unfolding every
  every_drop zero l h = h
  every_drop (suc n) [] h = refl
  every_drop (suc n) (x ∷ l) h = every_drop n l (and_parts (p x) (every p l) h).1

  pub every_take : (n : ℕ) (l : List ℕ) → every p l ≡ true → every p (take n l) ≡ true
  every_take n l h = (and_parts (every p (take n l)) (every p (drop n l)) (sym (every_append (take n l) (drop n l)) ∙ ap (every p) (take-append-drop n l) ∙ h)).0

  -- each element passes
  pub every_at : (l : List ℕ) → every p l ≡ true → (i : ℕ) → i < length l → p (get_or l i 0) ≡ true
  unfolding every
  every_at [] h i k = absurd (not-suc-le-zero k)
  every_at (x ∷ l) h zero k = (and_parts (p x) (every p l) h).0
  every_at (x ∷ l) h (suc i) k = every_at l (and_parts (p x) (every p l) h).1 i (le_of_suc-le-suc k)

  -- and not all do where one does not
  pub every_fails : (l : List ℕ) (i : ℕ) → i < length l → p (get_or l i 0) ≡ false → every p l ≡ false
  every_fails l i h e = refuted (every p l) (λ t. true≢false (sym (every_at l t i h) ∙ e))

-- zeros are all zero, and a list that is all zero is zeros of its length
pub zeros_all : (n : ℕ) → all_zero (replicate n 0) ≡ true
unfolding every
zeros_all zero = refl
zeros_all (suc n) = zeros_all n

pub all_zeros : (l : List ℕ) → all_zero l ≡ true → l ≡ replicate (length l) 0
unfolding every
all_zeros [] h = refl
all_zeros (x ∷ l) h =
    let p = and_parts (eqb x 0) (all_zero l) h in
    cc (eqb-true x 0 p.0, all_zeros l p.1)

-- zeros, but for the first k
pub drop_zeros : (k n : ℕ) → drop k (replicate {A = ℕ} n 0) ≡ replicate (n - k) 0
drop_zeros k n =
    let zeros : List ℕ = replicate n 0 in
    all_zeros (drop k zeros) (every_drop _ k zeros (zeros_all n))
    ∙ ap (λ (i : ℕ). replicate i 0) (length-drop k zeros ∙ ap (λ (i : ℕ). i - k) (length-replicate n 0))
