-- Laws of the rounds and of the block step, over the core of a hash: each from what the functions that it calls ensure.
-- Assumes nothing.
use Rattle.std.proofs.Common.{◌≡◌, ℕ, ◌-◌, ◌<◌, List, [], ◌∷◌, length, get_or, take, map, sym, ap, ◌∙◌, ap₂, arith, lit<, get_or-take}
use lib.ListN.{get_or-map}
use Rattle.std.proofs.lemmas.List as lists
use Rattle.std.proofs.lemmas.List.{map-id}
use mathlib.Core.List.{foldl}
use Rattle.hash.specs.Word.{add, ch, maj}
use Rattle.hash.specs.Table.{k32, k64, upper}
use Rattle.hash.specs.Description.{Core}
use Rattle.hash.specs.Blocks.{whole_blocks}
use Rattle.hash.specs.Sha2.{block_size, big0, big1, small0, small1, mix, schedule, t1, t2, round, rounds, sums, step}

-- the round constants of the narrow core, out of the one table
pub k32_at : (t : ℕ) {x y : ℕ} → t < 64 → x ≡ get_or k64 t 0 → y ≡ upper x → y ≡ get_or k32 t 0
unfolding k32
k32_at t h e f =
    f ∙ ap upper e ∙ sym (get_or-map upper (take 64 k64) t 0 ∙ ap upper (get_or-take 64 k64 t 0 h))

-- a word of an array, as a number
pub at : {W : Type 0} (value : W → ℕ) (l : List W) {n : ℕ} → length l ≡ n → (i : ℕ) (d : W) → i < n
    → value (get_or l i d) ≡ get_or (map value l) i 0
at value l e i d h = sym (lists.get_or-map value l i d 0 (omega arith))

module _ (C : Core) where
  pub mix_code : (w2 w7 w15 w16 : ℕ) {p q x y r : ℕ} → p ≡ small1 C w2 → x ≡ add C.width p w7 → q ≡ small0 C w15
      → y ≡ add C.width x q → r ≡ add C.width y w16 → r ≡ mix C w2 w7 w15 w16
  unfolding mix
  mix_code w2 w7 w15 w16 a b c d e = cc

  pub t1_code : (e f g h k w : ℕ) {p q x y z r : ℕ} → p ≡ big1 C e → x ≡ add C.width h p → q ≡ ch C.width e f g
      → y ≡ add C.width x q → z ≡ add C.width y k → r ≡ add C.width z w → r ≡ t1 C e f g h k w
  unfolding t1
  t1_code e f g h k w a b c d i j = cc

  pub t2_code : (a b c : ℕ) {p q r : ℕ} → p ≡ big0 C a → q ≡ maj a b c → r ≡ add C.width p q → r ≡ t2 C a b c
  unfolding t2
  t2_code a b c i j k = cc

  -- a round and the sums, from words of which `value` makes numbers
  module _ {W : Type 0} (value : W → ℕ) where
    pub round_code : (v : List W) → length v ≡ 8 → (k w : ℕ) (i0 i1 i2 i3 i4 i5 i6 i7 : W) {x y a e : ℕ}
        → x ≡ t1 C (value (get_or v 4 i4)) (value (get_or v 5 i5)) (value (get_or v 6 i6)) (value (get_or v 7 i7)) k w
        → y ≡ t2 C (value (get_or v 0 i0)) (value (get_or v 1 i1)) (value (get_or v 2 i2))
        → a ≡ add C.width x y → e ≡ add C.width (value (get_or v 3 i3)) x
        → a ∷ value (get_or v 0 i0) ∷ value (get_or v 1 i1) ∷ value (get_or v 2 i2) ∷ e ∷ value (get_or v 4 i4) ∷ value (get_or v 5 i5)
        ∷ value (get_or v 6 i6) ∷ [] ≡ round C (map value v) k w
    unfolding round
    round_code v n k w i0 i1 i2 i3 i4 i5 i6 i7 p q i j =
        cc (
          at value v n 0 i0 (lit< tt),
          at value v n 1 i1 (lit< tt),
          at value v n 2 i2 (lit< tt),
          at value v n 3 i3 (lit< tt),
          at value v n 4 i4 (lit< tt),
          at value v n 5 i5 (lit< tt),
          at value v n 6 i6 (lit< tt),
          at value v n 7 i7 (lit< tt),
        )

    pub sums_code : (h v : List W) → length h ≡ 8 → length v ≡ 8
        → (h0 h1 h2 h3 h4 h5 h6 h7 v0 v1 v2 v3 v4 v5 v6 v7 : W) {a0 a1 a2 a3 a4 a5 a6 a7 : ℕ}
        → a0 ≡ add C.width (value (get_or h 0 h0)) (value (get_or v 0 v0)) → a1 ≡ add C.width (value (get_or h 1 h1)) (value (get_or v 1 v1))
        → a2 ≡ add C.width (value (get_or h 2 h2)) (value (get_or v 2 v2)) → a3 ≡ add C.width (value (get_or h 3 h3)) (value (get_or v 3 v3))
        → a4 ≡ add C.width (value (get_or h 4 h4)) (value (get_or v 4 v4)) → a5 ≡ add C.width (value (get_or h 5 h5)) (value (get_or v 5 v5))
        → a6 ≡ add C.width (value (get_or h 6 h6)) (value (get_or v 6 v6)) → a7 ≡ add C.width (value (get_or h 7 h7)) (value (get_or v 7 v7))
        → a0 ∷ a1 ∷ a2 ∷ a3 ∷ a4 ∷ a5 ∷ a6 ∷ a7 ∷ [] ≡ sums C (map value h) (map value v)
    unfolding sums
    sums_code h v m n h0 h1 h2 h3 h4 h5 h6 h7 v0 v1 v2 v3 v4 v5 v6 v7 e0 e1 e2 e3 e4 e5 e6 e7 =
        let both : (i : ℕ) (x y : W) → i < 8
        → add C.width (value (get_or h i x)) (value (get_or v i y)) ≡ add C.width (get_or (map value h) i 0) (get_or (map value v) i 0) =
        λ i x y l. ap₂ (add C.width) (at value h m i x l) (at value v n i y l)
        in
        λ i.
        (e0 ∙ both 0 h0 v0 (lit< tt)) i ∷ (e1 ∙ both 1 h1 v1 (lit< tt)) i ∷ (e2 ∙ both 2 h2 v2 (lit< tt)) i
        ∷ (e3 ∙ both 3 h3 v3 (lit< tt)) i ∷ (e4 ∙ both 4 h4 v4 (lit< tt)) i ∷ (e5 ∙ both 5 h5 v5 (lit< tt)) i
        ∷ (e6 ∙ both 6 h6 v6 (lit< tt)) i ∷ (e7 ∙ both 7 h7 v7 (lit< tt)) i ∷ []

  pub step_code : (h b : List ℕ) {v r : List ℕ} → v ≡ rounds C (schedule C b (C.rounds - 16)) h C.rounds → r ≡ sums C h v
      → r ≡ step C h b
  unfolding step
  step_code h b e f = f ∙ ap (sums C h) e

  -- words that are numbers already, after a run of blocks
  pub themselves : (v ws run : List ℕ)
      → map (λ (x : ℕ). x) v ≡ foldl (step C) (map (λ (x : ℕ). x) ws) (whole_blocks (block_size C) run)
      → v ≡ foldl (step C) ws (whole_blocks (block_size C) run)
  themselves v ws run e = sym (map-id v) ∙ e ∙ ap (λ (l : List ℕ). foldl (step C) l (whole_blocks (block_size C) run)) (map-id ws)
