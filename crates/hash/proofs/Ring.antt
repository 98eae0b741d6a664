-- The rounds over a ring of sixteen words are those over the whole schedule, over the core of a hash. Assumes nothing.
use Rattle.std.proofs.Common.{◌≡◌, ℕ, zero, suc, ◌+◌, ◌-◌, ◌≤◌, List, [], ◌∷◌, ◌++◌, length, get_or, drop, map, sym, refl, ap, ◌∙◌, ap₂, add-zero, add-one, arith, lit<, get_or-drop, drop-drop}
use Rattle.std.proofs.lemmas.List.{length-map}
use lib.Seq.{drop-append-le}
use Rattle.hash.specs.Description.{Core}
use Rattle.hash.specs.Sha2.{words, mix, next, schedule, rounds}
use Rattle.hash.specs.Ring.{sliding_rounds, round_at, rounds_over, slide, advance, advanced, progress_at}
use Rattle.hash.proofs.Rounds.{at}
use Rattle.hash.proofs.Schedule.{schedule_length, stays}

-- the first n values of a function
listed : (ℕ → ℕ) → ℕ → List ℕ
listed f zero = []
listed f (suc n) = f 0 ∷ listed (λ i. f (suc i)) n

listed_all : (l : List ℕ) → listed (λ i. get_or l i 0) (length l) ≡ l
unfolding listed
listed_all [] = refl
listed_all (x ∷ l) = ap (λ (m : List ℕ). x ∷ m) (listed_all l)

module _ (C : Core) where
  -- the array that the code makes of a ring x of words and the new word
  pub slide_code : {W : Type 0} (value : W → ℕ) (x : List W) → length x ≡ 16
      → (d1 d2 d3 d4 d5 d6 d7 d8 d9 d10 d11 d12 d13 d14 d15 m0 m1 m9 m14 : W) {y : ℕ}
      → y ≡ mix C (value (get_or x 14 m14)) (value (get_or x 9 m9)) (value (get_or x 1 m1)) (value (get_or x 0 m0))
      → value (get_or x 1 d1) ∷ value (get_or x 2 d2) ∷ value (get_or x 3 d3) ∷ value (get_or x 4 d4) ∷ value (get_or x 5 d5)
      ∷ value (get_or x 6 d6) ∷ value (get_or x 7 d7) ∷ value (get_or x 8 d8) ∷ value (get_or x 9 d9) ∷ value (get_or x 10 d10)
      ∷ value (get_or x 11 d11) ∷ value (get_or x 12 d12) ∷ value (get_or x 13 d13) ∷ value (get_or x 14 d14) ∷ value (get_or x 15 d15) ∷ y ∷ []
      ≡ slide C (map value x)
  unfolding slide listed
  slide_code value x e d1 d2 d3 d4 d5 d6 d7 d8 d9 d10 d11 d12 d13 d14 d15 m0 m1 m9 m14 f =
      let l : List ℕ = map value x in
      let len : length l ≡ 16 = length-map x value ∙ e in
      let all : listed (λ i. get_or l i 0) 16 ≡ l = ap (listed (λ i. get_or l i 0)) (sym len) ∙ listed_all l in
      let made : ℕ = mix C (get_or l 14 0) (get_or l 9 0) (get_or l 1 0) (get_or l 0 0) in
      let new : mix C (value (get_or x 14 m14)) (value (get_or x 9 m9)) (value (get_or x 1 m1)) (value (get_or x 0 m0)) ≡ made =
      λ i.
      mix C (at value x e 14 m14 (lit< tt) i) (at value x e 9 m9 (lit< tt) i) (at value x e 1 m1 (lit< tt) i)
      (at value x e 0 m0 (lit< tt) i)
      in
      (λ i.
      at value x e 1 d1 (lit< tt) i ∷ at value x e 2 d2 (lit< tt) i ∷ at value x e 3 d3 (lit< tt) i
      ∷ at value x e 4 d4 (lit< tt) i ∷ at value x e 5 d5 (lit< tt) i ∷ at value x e 6 d6 (lit< tt) i
      ∷ at value x e 7 d7 (lit< tt) i ∷ at value x e 8 d8 (lit< tt) i ∷ at value x e 9 d9 (lit< tt) i
      ∷ at value x e 10 d10 (lit< tt) i ∷ at value x e 11 d11 (lit< tt) i ∷ at value x e 12 d12 (lit< tt) i
      ∷ at value x e 13 d13 (lit< tt) i ∷ at value x e 14 d14 (lit< tt) i ∷ at value x e 15 d15 (lit< tt) i
      ∷ (f ∙ new) i ∷ [])
      ∙ ap (λ (m : List ℕ). drop 1 m ++ (made ∷ [])) all

  -- eight rounds in a row, each from what the one before it made
  pub advance_eight : (t : ℕ) (s : List ℕ × List ℕ) {s1 s2 s3 s4 s5 s6 s7 s8 : List ℕ × List ℕ}
      → s1 ≡ advance C t s → s2 ≡ advance C (t + 1) s1 → s3 ≡ advance C (t + 2) s2 → s4 ≡ advance C (t + 3) s3
      → s5 ≡ advance C (t + 4) s4 → s6 ≡ advance C (t + 5) s5 → s7 ≡ advance C (t + 6) s6 → s8 ≡ advance C (t + 7) s7
      → s8 ≡ advanced C t s 8
  unfolding advanced
  advance_eight t s e1 e2 e3 e4 e5 e6 e7 e8 = cc (add-zero t)

  -- the last sixteen rounds in a row, with the words of a ring x
  pub round_sixteen : {W : Type 0} (value : W → ℕ) (x : List W) (v : List ℕ) (t : ℕ) → length x ≡ 16 → t ≡ sliding_rounds C
      → (d0 d1 d2 d3 d4 d5 d6 d7 d8 d9 d10 d11 d12 d13 d14 d15 : W) {v1 v2 v3 v4 v5 v6 v7 v8 v9 v10 v11 v12 v13 v14 v15 v16 : List ℕ}
      → v1 ≡ round_at C v t (value (get_or x 0 d0))
      → v2 ≡ round_at C v1 (t + 1) (value (get_or x 1 d1))
      → v3 ≡ round_at C v2 (t + 2) (value (get_or x 2 d2))
      → v4 ≡ round_at C v3 (t + 3) (value (get_or x 3 d3))
      → v5 ≡ round_at C v4 (t + 4) (value (get_or x 4 d4))
      → v6 ≡ round_at C v5 (t + 5) (value (get_or x 5 d5))
      → v7 ≡ round_at C v6 (t + 6) (value (get_or x 6 d6))
      → v8 ≡ round_at C v7 (t + 7) (value (get_or x 7 d7))
      → v9 ≡ round_at C v8 (t + 8) (value (get_or x 8 d8))
      → v10 ≡ round_at C v9 (t + 9) (value (get_or x 9 d9))
      → v11 ≡ round_at C v10 (t + 10) (value (get_or x 10 d10))
      → v12 ≡ round_at C v11 (t + 11) (value (get_or x 11 d11))
      → v13 ≡ round_at C v12 (t + 12) (value (get_or x 12 d12))
      → v14 ≡ round_at C v13 (t + 13) (value (get_or x 13 d13))
      → v15 ≡ round_at C v14 (t + 14) (value (get_or x 14 d14))
      → v16 ≡ round_at C v15 (t + 15) (value (get_or x 15 d15))
      → v16 ≡ rounds_over C (sliding_rounds C) (map value x) v 16
  unfolding rounds_over
  round_sixteen value x v t n e d0 d1 d2 d3 d4 d5 d6 d7 d8 d9 d10 d11 d12 d13 d14 d15 e1 e2 e3 e4 e5 e6 e7 e8 e9 e10 e11 e12 e13 e14 e15 e16 =
      cc (
        add-zero (sliding_rounds C),
        at value x n 0 d0 (lit< tt),
        at value x n 1 d1 (lit< tt),
        at value x n 2 d2 (lit< tt),
        at value x n 3 d3 (lit< tt),
        at value x n 4 d4 (lit< tt),
        at value x n 5 d5 (lit< tt),
        at value x n 6 d6 (lit< tt),
        at value x n 7 d7 (lit< tt),
        at value x n 8 d8 (lit< tt),
        at value x n 9 d9 (lit< tt),
        at value x n 10 d10 (lit< tt),
        at value x n 11 d11 (lit< tt),
        at value x n 12 d12 (lit< tt),
        at value x n 13 d13 (lit< tt),
        at value x n 14 d14 (lit< tt),
        at value x n 15 d15 (lit< tt),
      )

  module _ (b : List ℕ) where
    -- the whole schedule of a block
    abbrev whole : List ℕ
    whole = schedule C b (sliding_rounds C)

    -- a ring that slides is the schedule one word on
    pub slide_schedule : (t : ℕ) → slide C (drop t (schedule C b t)) ≡ drop (t + 1) (schedule C b (t + 1))
    unfolding slide schedule next
    slide_schedule t =
        let w : List ℕ = schedule C b t in
        let at : (i j : ℕ) → t + i ≡ j → get_or (drop t w) i 0 ≡ get_or w j 0 =
        λ i j e. get_or-drop t w i 0 ∙ ap (λ (k : ℕ). get_or w k 0) e in
        let new : mix C (get_or (drop t w) 14 0) (get_or (drop t w) 9 0) (get_or (drop t w) 1 0) (get_or (drop t w) 0 0) ≡ next C w (16 + t) =
        λ i. mix C (at 14 (16 + t - 2) (omega arith) i) (at 9 (16 + t - 7) (omega arith) i) (at 1 (16 + t - 15) (omega arith) i)
        (at 0 (16 + t - 16) (omega arith) i)
        in
        ap₂ (λ (l : List ℕ) (y : ℕ). l ++ (y ∷ [])) (drop-drop 1 t w) new
        ∙ sym (drop-append-le (t + 1) w (next C w (16 + t) ∷ []) (omega (arith, schedule_length C b t)))
        ∙ ap (λ (n : ℕ). drop (t + 1) (schedule C b n)) (sym (add-one t))

    module _ (h : List ℕ) where
      -- a round with its word of the whole schedule leads on
      round_more : (t : ℕ) {w : ℕ} → w ≡ get_or whole t 0
          → round_at C (rounds C whole h t) t w ≡ rounds C whole h (t + 1)
      unfolding rounds
      round_more t e = ap (round_at C (rounds C whole h t) t) e ∙ ap (rounds C whole h) (sym (add-one t))

      -- while the ring slides, a round with its first word leads from t to t + 1
      pub advance_more : (t : ℕ) → t ≤ sliding_rounds C → advance C t (progress_at C h b t) ≡ progress_at C h b (t + 1)
      unfolding advance
      advance_more t l =
          let e : t + (sliding_rounds C - t) ≡ sliding_rounds C = omega arith in
          let first : get_or (drop t (schedule C b t)) 0 0 ≡ get_or whole t 0 =
          get_or-drop t (schedule C b t) 0 0
          ∙ ap (λ (j : ℕ). get_or (schedule C b t) j 0) (add-zero t)
          ∙ sym (stays C b t (sliding_rounds C - t) t (omega arith))
          ∙ ap (λ (n : ℕ). get_or (schedule C b n) t 0) e
          in
          ap₂ (λ (v x : List ℕ). (v, x)) (round_more t first) (slide_schedule t)

      -- and n of them from t to t + n
      advanced_add : (t n : ℕ) → t + n ≤ sliding_rounds C → advanced C t (progress_at C h b t) n ≡ progress_at C h b (t + n)
      unfolding advanced
      advanced_add t zero l = ap (progress_at C h b) (sym (add-zero t))
      advanced_add t (suc n) l =
          let e : t + n + 1 ≡ t + suc n = omega arith in
          ap (advance C (t + n)) (advanced_add t n (omega arith)) ∙ advance_more (t + n) (omega arith) ∙ ap (progress_at C h b) e

      -- the same, from what the code has to what it makes
      pub advanced_code : (t n j : ℕ) {s r : List ℕ × List ℕ} → s ≡ progress_at C h b t → r ≡ advanced C t s n → t + n ≡ j
          → j ≤ sliding_rounds C → r ≡ progress_at C h b j
      advanced_code t n j e f g l =
          f ∙ ap (λ (s : List ℕ × List ℕ). advanced C t s n) e ∙ advanced_add t n (omega arith) ∙ ap (progress_at C h b) g

      -- no round is made yet: the ring holds the words of the block
      pub progress_first : {x : List ℕ} → x ≡ words C b 16 → (h, x) ≡ progress_at C h b 0
      unfolding rounds schedule
      progress_first e = ap (λ (l : List ℕ). (h, l)) e

      -- the last rounds, over the ring that is left
      last_over : (n : ℕ) → rounds_over C (sliding_rounds C) (progress_at C h b (sliding_rounds C)).1 (progress_at C h b (sliding_rounds C)).0 n
          ≡ rounds C whole h (sliding_rounds C + n)
      unfolding rounds_over
      last_over zero = ap (rounds C whole h) (sym (add-zero (sliding_rounds C)))
      last_over (suc n) =
          let e : sliding_rounds C + n + 1 ≡ sliding_rounds C + suc n = omega arith in
          ap (λ (v : List ℕ). round_at C v (sliding_rounds C + n) (get_or (drop (sliding_rounds C) whole) n 0)) (last_over n)
          ∙ round_more (sliding_rounds C + n) (get_or-drop (sliding_rounds C) whole n 0)
          ∙ ap (rounds C whole h) e

      -- the same, from what the code has
      pub rounds_code : (n : ℕ) {s : List ℕ × List ℕ} → s ≡ progress_at C h b (sliding_rounds C)
          → rounds_over C (sliding_rounds C) s.1 s.0 n ≡ rounds C whole h (sliding_rounds C + n)
      rounds_code n e = ap (λ (s : List ℕ × List ℕ). rounds_over C (sliding_rounds C) s.1 s.0 n) e ∙ last_over n
