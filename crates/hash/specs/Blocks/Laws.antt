-- Proved: laws of bytes cut into blocks, over the size of a block and the step. Assumes nothing.
use Rattle.std.specs.Prelude.{◌≡◌, ℕ, zero, suc, ◌+◌, ◌-◌, ◌*◌, ◌/◌, ◌%◌, ◌<◌, ◌≤◌, List, [], ◌∷◌, ◌++◌, length, take, drop}
use Rattle.std.proofs.Math.Path.{refl, sym, ap}
use Rattle.std.proofs.Common.{◌∙◌, zero-add, zero-mul, suc-add, add-mul, mod-lt, take-append-drop, drop-drop, take-add, length-take-le}
use mathlib.Core.List.{foldl, foldl-append, flatten}
use Rattle.std.proofs.Math.Nat.{div-eq_of_lt, div-eq-sub-div, div-mul-le_self, mod-eq-sub-div-mul, mul-add-div_right, mul-mod_left, zero-mod, mod_self, div-add-mod'}
use Rattle.std.proofs.Math.Numerals.{add-one}
use native.Mathlib.Omega.{arith}
use Rattle.std.proofs.Math.ListN.{length-append, length-drop, drop_of_length-le}
use Rattle.std.proofs.lemmas.List.{take-append-le}
use Rattle.std.proofs.Math.Seq.{drop-append-le, take-length}
use Rattle.octets.specs.Parts.{part_all}
use Rattle.hash.specs.Run.{Run}
use Rattle.hash.specs.Blocks.Sized.{none, more}
use Rattle.hash.specs.Blocks.{Sized, first_blocks, whole_blocks, left_over, words_after}

module _ (B : ℕ) where
  -- what stands after n blocks plays no part in them
  first_front : (n : ℕ) (l t : List ℕ) → n * B ≤ length l → first_blocks B n (l ++ t) ≡ first_blocks B n l
  unfolding first_blocks
  first_front zero l t h = refl
  first_front (suc n) l t h =
      let h_b : B ≤ length l = omega arith in
      rw (take-append-le B l t h_b, drop-append-le B l t h_b)
      (ap (λ (bs : List (List ℕ)). take B l ∷ bs) (first_front n (drop B l) t (simp length-drop (omega arith))))

  first_add : (n m : ℕ) (l : List ℕ) → first_blocks B (n + m) l ≡ first_blocks B n l ++ first_blocks B m (drop (n * B) l)
  unfolding first_blocks
  first_add zero m l = rw (zero-add, zero-mul)
  first_add (suc n) m l =
      let e : B + n * B ≡ suc n * B = omega arith in
      ap (λ (k : ℕ). first_blocks B k l) (suc-add n m)
      ∙ ap (λ (bs : List (List ℕ)). take B l ∷ bs)
      (first_add n m (drop B l)
      ∙ ap (λ (r : List ℕ). first_blocks B n (drop B l) ++ first_blocks B m r) (drop-drop (n * B) B l ∙ ap (λ (k : ℕ). drop k l) e))

  first_length : (n : ℕ) (l : List ℕ) → length (first_blocks B n l) ≡ n
  unfolding first_blocks
  first_length zero l = refl
  first_length (suc n) l = ap suc (first_length n (drop B l))

  first_sized : (n : ℕ) (l : List ℕ) → n * B ≤ length l → Sized B (first_blocks B n l)
  unfolding first_blocks
  first_sized zero l h = none
  first_sized (suc n) l h = more (length-take-le B l (omega arith)) (first_sized n (drop B l) (simp length-drop (omega arith)))

  first_flat : (n : ℕ) (l : List ℕ) → flatten (first_blocks B n l) ≡ take (n * B) l
  unfolding first_blocks flatten
  first_flat zero l = ap (λ (k : ℕ). take k l) (sym (zero-mul B))
  first_flat (suc n) l =
      let e : B + n * B ≡ suc n * B = omega arith in
      ap (λ (r : List ℕ). take B l ++ r) (first_flat n (drop B l))
      ∙ sym (take-add B (n * B) l)
      ∙ ap (λ (k : ℕ). take k l) e

  -- how many whole blocks there are, each of B bytes; those of a run, joined, are the run
  pub whole_length : (l : List ℕ) → length (whole_blocks B l) ≡ length l / B
  unfolding whole_blocks
  whole_length l = first_length (length l / B) l

  pub whole_sized : (l : List ℕ) → Sized B (whole_blocks B l)
  unfolding whole_blocks
  whole_sized l = first_sized (length l / B) l (div-mul-le_self (length l) B)

  pub whole_flat : (l : List ℕ) → Run B l → flatten (whole_blocks B l) ≡ l
  unfolding whole_blocks
  whole_flat l r =
      let e : length l / B * B ≡ length l = omega (arith, div-add-mod' (length l) B) in
      first_flat (length l / B) l ∙ ap (λ (k : ℕ). take k l) e ∙ take-length l

  -- zero bytes are a run, and so is one block
  pub run_none : Run B []
  run_none = zero-mod B

  pub run_block : (l : List ℕ) → length l ≡ B → Run B l
  run_block l e = ap (λ (n : ℕ). n % B) e ∙ mod_self B

  -- what is left: its length, and two cases
  pub left_length : (l : List ℕ) → length (left_over B l) ≡ length l % B
  unfolding left_over
  left_length l = length-drop (length l / B * B) l ∙ sym (mod-eq-sub-div-mul (length l) B)

  pub left_short : (l : List ℕ) → length l < B → left_over B l ≡ l
  unfolding left_over
  left_short l h = ap (λ (k : ℕ). drop (k * B) l) (div-eq_of_lt h) ∙ ap (λ (k : ℕ). drop k l) (zero-mul B)

  pub left_run : (l : List ℕ) → Run B l → left_over B l ≡ []
  unfolding left_over
  left_run l r = drop_of_length-le l {i = length l / B * B} (omega (arith, div-add-mod' (length l) B))

  pub left_less : (l : List ℕ) → 0 < B → length (left_over B l) < B
  left_less l p = omega (arith, left_length l, mod-lt (length l) p)

  -- the place where the whole blocks end: before it stands a run, and after it what is left, as a loan of that part has it
  cut_is : (l : List ℕ) → length l - length l % B ≡ length l / B * B
  cut_is l = omega (arith, div-add-mod' (length l) B)

  pub cut_run : (l : List ℕ) → Run B (take (length l - length l % B) l)
  cut_run l =
      ap (λ (n : ℕ). n % B) (length-take-le (length l - length l % B) l (omega arith) ∙ cut_is l) ∙ mul-mod_left (length l / B) B

  pub left_part : (l : List ℕ) → take (length l - (length l - length l % B)) (drop (length l - length l % B) l) ≡ left_over B l
  unfolding left_over
  left_part l = part_all l (length l) (length l - length l % B) refl ∙ ap (λ (k : ℕ). drop k l) (cut_is l)

  -- bytes cut anywhere have the whole blocks of the first part, then those of what it leaves with the second
  module _ (a b : List ℕ) (p : 0 < B) where
    cut_count : length (a ++ b) / B ≡ length a / B + length (left_over B a ++ b) / B
    unfolding left_over
    cut_count =
        let n : ℕ = length a / B in
        let le : n * B ≤ length a = div-mul-le_self (length a) B in
        let e : length (a ++ b) ≡ n * B + length (drop (n * B) a ++ b) =
        omega (arith, length-append a b, length-append (drop (n * B) a) b, length-drop (n * B) a)
        in
        ap (λ (k : ℕ). k / B) e ∙ mul-add-div_right p n (length (drop (n * B) a ++ b))

    pub whole_append : whole_blocks B (a ++ b) ≡ whole_blocks B a ++ whole_blocks B (left_over B a ++ b)
    unfolding whole_blocks left_over
    whole_append =
        let n : ℕ = length a / B in
        let m : ℕ = length (drop (n * B) a ++ b) / B in
        let le : n * B ≤ length a = div-mul-le_self (length a) B in
        ap (λ (k : ℕ). first_blocks B k (a ++ b)) cut_count
        ∙ first_add n m (a ++ b)
        ∙ ap (λ (bs : List (List ℕ)). bs ++ first_blocks B m (drop (n * B) (a ++ b))) (first_front n a b le)
        ∙ ap (λ (r : List ℕ). first_blocks B n a ++ first_blocks B m r) (drop-append-le (n * B) a b le)

    pub left_append : left_over B (a ++ b) ≡ left_over B (left_over B a ++ b)
    unfolding left_over
    left_append =
        let n : ℕ = length a / B in
        let m : ℕ = length (drop (n * B) a ++ b) / B in
        let le : n * B ≤ length a = div-mul-le_self (length a) B in
        ap (λ (k : ℕ). drop (k * B) (a ++ b)) cut_count
        ∙ ap (λ (k : ℕ). drop k (a ++ b)) (add-mul n m B)
        ∙ sym (drop-drop (m * B) (n * B) (a ++ b))
        ∙ ap (λ (x : List ℕ). drop (m * B) x) (drop-append-le (n * B) a b le)

  -- a run leaves nothing over, so that what comes after it begins a block
  pub left_after_run : (a b : List ℕ) → 0 < B → Run B a → left_over B (a ++ b) ≡ left_over B b
  left_after_run a b p r = left_append a b p ∙ ap (λ (l : List ℕ). left_over B (l ++ b)) (left_run a r)

  module _ (step : List ℕ → List ℕ → List ℕ) where
    -- bytes that fill no block
    pub words_short : (ws l : List ℕ) → length l < B → words_after B step ws l ≡ ws
    unfolding words_after whole_blocks first_blocks
    words_short ws l h = ap (λ (k : ℕ). foldl step ws (first_blocks B k l)) (div-eq_of_lt h)

    pub words_none : (ws : List ℕ) → 0 < B → words_after B step ws [] ≡ ws
    words_none ws p = words_short ws [] p

    -- one block more
    pub words_step : (ws l : List ℕ) → 0 < B → B ≤ length l → words_after B step ws l ≡ words_after B step (step ws (take B l)) (drop B l)
    unfolding words_after whole_blocks first_blocks
    words_step ws l p h =
        let e : length l / B ≡ suc ((length l - B) / B) = div-eq-sub-div p h ∙ add-one _ in
        ap (λ (k : ℕ). foldl step ws (first_blocks B k l)) e
        ∙ ap (λ (k : ℕ). foldl step (step ws (take B l)) (first_blocks B (k / B) (drop B l))) (sym (length-drop B l))

    -- a and then b is a with b after it
    pub words_append : (ws a b : List ℕ) → 0 < B
        → words_after B step ws (a ++ b) ≡ words_after B step (words_after B step ws a) (left_over B a ++ b)
    unfolding words_after
    words_append ws a b p =
        ap (foldl step ws) (whole_append a b p) ∙ foldl-append step ws (whole_blocks B a) (whole_blocks B (left_over B a ++ b))

    -- a run, and then what comes after it
    pub words_after_run : (ws a b : List ℕ) → 0 < B → Run B a → words_after B step ws (a ++ b) ≡ words_after B step (words_after B step ws a) b
    words_after_run ws a b p r = words_append ws a b p ∙ ap (λ (l : List ℕ). words_after B step (words_after B step ws a) (l ++ b)) (left_run a r)

    -- the run that ends where the whole blocks end leads to the same words as all of the bytes
    pub words_cut : (ws l : List ℕ) → 0 < B → words_after B step ws (take (length l - length l % B) l) ≡ words_after B step ws l
    words_cut ws l p =
        let n : ℕ = length l - length l % B in
        let short : length (drop n l) < B = rw length-drop (omega (arith, mod-lt (length l) p)) in
        sym (words_short (words_after B step ws (take n l)) (drop n l) short)
        ∙ sym (words_after_run ws (take n l) (drop n l) p (cut_run l))
        ∙ ap (words_after B step ws) (take-append-drop n l)
