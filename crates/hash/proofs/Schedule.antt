-- Laws of the schedule, over the core of a hash. Assumes nothing.
use Rattle.std.proofs.Common.{◌≡◌, ℕ, zero, suc, ◌+◌, ◌<◌, List, [], ◌∷◌, length, get_or, refl, ap, ◌∙◌, add-zero, add-suc, arith, length-append}
use lib.ListN.{get_or-append}
use Rattle.hash.specs.Description.{Core}
use Rattle.hash.specs.Sha2.{word, words, next, schedule}

module _ (C : Core) (b : List ℕ) where
  -- the sixteen words of a block, one after the other
  pub words_sixteen : {w0 w1 w2 w3 w4 w5 w6 w7 w8 w9 w10 w11 w12 w13 w14 w15 : ℕ}
      → w0 ≡ word C b 0 → w1 ≡ word C b 1 → w2 ≡ word C b 2 → w3 ≡ word C b 3
      → w4 ≡ word C b 4 → w5 ≡ word C b 5 → w6 ≡ word C b 6 → w7 ≡ word C b 7
      → w8 ≡ word C b 8 → w9 ≡ word C b 9 → w10 ≡ word C b 10 → w11 ≡ word C b 11
      → w12 ≡ word C b 12 → w13 ≡ word C b 13 → w14 ≡ word C b 14 → w15 ≡ word C b 15
      → w0 ∷ w1 ∷ w2 ∷ w3 ∷ w4 ∷ w5 ∷ w6 ∷ w7 ∷ w8 ∷ w9 ∷ w10 ∷ w11 ∷ w12 ∷ w13 ∷ w14 ∷ w15 ∷ [] ≡ words C b 16
  unfolding words
  words_sixteen e0 e1 e2 e3 e4 e5 e6 e7 e8 e9 e10 e11 e12 e13 e14 e15 =
      λ i. e0 i ∷ e1 i ∷ e2 i ∷ e3 i ∷ e4 i ∷ e5 i ∷ e6 i ∷ e7 i ∷ e8 i ∷ e9 i ∷ e10 i ∷ e11 i ∷ e12 i ∷ e13 i ∷ e14 i ∷ e15 i ∷ []

  words_length : (n : ℕ) → length (words C b n) ≡ n
  unfolding words
  words_length zero = refl
  words_length (suc n) = omega (arith, length-append (words C b n) (word C b n ∷ []), words_length n)

  pub schedule_length : (n : ℕ) → length (schedule C b n) ≡ 16 + n
  unfolding schedule
  schedule_length zero = words_length 16
  schedule_length (suc n) =
      omega (arith, length-append (schedule C b n) (next C (schedule C b n) (16 + n) ∷ []), schedule_length n)

  -- a word once made stays
  pub stays : (n m j : ℕ) → j < 16 + n → get_or (schedule C b (n + m)) j 0 ≡ get_or (schedule C b n) j 0
  unfolding schedule
  stays n zero j h = ap (λ (x : ℕ). get_or (schedule C b x) j 0) (add-zero n)
  stays n (suc m) j h =
      ap (λ (x : ℕ). get_or (schedule C b x) j 0) (add-suc n m)
      ∙ get_or-append (schedule C b (n + m)) (next C (schedule C b (n + m)) (16 + (n + m)) ∷ []) 0 j
      (rw schedule_length (omega arith))
      ∙ stays n m j h
