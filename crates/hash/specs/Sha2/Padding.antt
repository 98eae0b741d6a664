-- Proved: laws of the padding, over the core of a hash: it ends at a block with the fewest zeros, and no two messages share their
-- padded blocks. The one condition is that a block has a byte. Assumes nothing.
use Rattle.std.specs.Prelude.{◌≡◌, ℕ, zero, suc, ◌+◌, ◌-◌, ◌*◌, ◌/◌, ◌%◌, ◌<◌, ◌≤◌, List, [], ◌∷◌, ◌++◌, length, take, replicate, ◌≢◌, refl}
use Rattle.std.proofs.Math.Path.{sym, ap}
use Rattle.std.proofs.Common.{◌∙◌, mod-lt, div-add-mod'}
use mathlib.Core.List.{append_assoc, flatten}
use Rattle.std.proofs.Math.Nat.{mod-add-mod, mod-eq_of_lt, mod_self, mul-mod_left}
use Rattle.std.proofs.Math.Decide.{dec_le}
use native.Mathlib.Omega.{arith}
use Rattle.std.proofs.Math.Arith.{digits_mod}
use Rattle.std.proofs.Math.ListN.{length-append, length-replicate}
use Rattle.std.proofs.Math.Seq.{take-append_seam}
use Rattle.octets.specs.Number.Laws.{bytes_length}
use Rattle.hash.specs.Description.{Core}
use Rattle.hash.specs.Blocks.{Sized}
use Rattle.hash.specs.Blocks.Laws.{whole_length, whole_sized, whole_flat}
use Rattle.hash.specs.Sha2.{block_size, field_size, zero_count, length_field, padding, blocks}

-- no mark stands in zeros
no_mark : (i : ℕ) (b : List ℕ) (j : ℕ) → replicate i 0 ≢ b ++ (0x80 ∷ replicate j 0)
no_mark zero [] j e = let z : ◌≡◌ {A = ℕ} 0 1 = cc in omega arith
no_mark zero (y ∷ b) j e = let z : ◌≡◌ {A = ℕ} 0 1 = cc in omega arith
no_mark (suc i) [] j e = let z : ◌≡◌ {A = ℕ} 0 0x80 = cc in omega arith
no_mark (suc i) (y ∷ b) j e = let t : replicate i 0 ≡ b ++ (0x80 ∷ replicate j 0) = cc in no_mark i b j t

-- the last mark of a list, with zeros after it, says where the list before it ends
marked : (a b : List ℕ) (i j : ℕ) → a ++ (0x80 ∷ replicate i 0) ≡ b ++ (0x80 ∷ replicate j 0) → a ≡ b
marked [] [] i j e = refl
marked [] (y ∷ b) i j e = let t : replicate i 0 ≡ b ++ (0x80 ∷ replicate j 0) = cc in absurd (no_mark i b j t)
marked (x ∷ a) [] i j e = let t : replicate j 0 ≡ a ++ (0x80 ∷ replicate i 0) = cc in absurd (no_mark j a i t)
marked (x ∷ a) (y ∷ b) i j e =
    let t : a ++ (0x80 ∷ replicate i 0) ≡ b ++ (0x80 ∷ replicate j 0) = cc in
    let u : a ≡ b = marked a b i j t in
    let v : x ≡ y = cc in
    cc

-- of two equal lists whose ends are of one length, the fronts are equal
fronts : (p f q g : List ℕ) → length f ≡ length g → p ++ f ≡ q ++ g → p ≡ q
fronts p f q g h e =
    let l : length p ≡ length q = omega (arith, length-append p f, length-append q g, ap length e) in
    sym (take-append_seam p f) ∙ (λ i. take (l i) (e i)) ∙ take-append_seam q g

module _ (C : Core) (positive : 0 < block_size C) where
  -- where r bytes begin the block that takes the rest, the zeros fill it
  pub zeros_after : (n j r : ℕ) → n + 1 + field_size C ≡ j * block_size C + r → 0 < r → r ≤ block_size C → zero_count C n ≡ block_size C - r
  unfolding zero_count
  zeros_after n j r e p h =
      let B : ℕ = block_size C in
      elim (dec_le B r) [
        | yes l ↦
            let s : n + 1 + field_size C ≡ suc j * B = omega arith in
            let f : B - (n + 1 + field_size C) % B ≡ B = omega (arith, ap (λ (k : ℕ). k % B) s ∙ mul-mod_left (suc j) B) in
            let z : 0 ≡ B - r = omega arith in
            ap (λ (k : ℕ). k % B) f ∙ mod_self B ∙ z
        | no l ↦
            ap (λ (k : ℕ). (B - k % B) % B) e ∙ ap (λ (k : ℕ). (B - k) % B) (digits_mod j {m = B} {r = r} (omega arith)) ∙ mod-eq_of_lt (omega arith)
      ]

  -- in one equation: what the block lacks that the last of the other bytes stands in
  zeros_is : (n : ℕ) → zero_count C n ≡ block_size C - ((n + field_size C) % block_size C + 1)
  zeros_is n =
      let x : ℕ = n + field_size C in
      let h : x % block_size C < block_size C = mod-lt x positive in
      zeros_after n (x / block_size C) (x % block_size C + 1) (omega (arith, div-add-mod' x (block_size C))) (omega arith) (omega arith)

  -- whole blocks of the message play no part
  pub zeros_rest : (n : ℕ) → zero_count C (n % block_size C) ≡ zero_count C n
  zeros_rest n =
      zeros_is (n % block_size C) ∙ ap (λ (k : ℕ). block_size C - (k + 1)) (mod-add-mod n (block_size C) (field_size C)) ∙ sym (zeros_is n)

  -- the padded message ends at a block
  pub ends_at_block : (n : ℕ) → (n + 1 + zero_count C n + field_size C) % block_size C ≡ 0
  ends_at_block n =
      let B : ℕ = block_size C in
      let x : ℕ = n + field_size C in
      let h : x % B < B = mod-lt x positive in
      let s : n + 1 + zero_count C n + field_size C ≡ suc (x / B) * B = omega (arith, div-add-mod' x B, zeros_is n) in
      ap (λ (k : ℕ). k % B) s ∙ mul-mod_left (suc (x / B)) B

  -- and no smaller number of zeros makes it so
  pub fewest_zeros : (n z : ℕ) → (n + 1 + z + field_size C) % block_size C ≡ 0 → zero_count C n ≤ z
  fewest_zeros n z m =
      let B : ℕ = block_size C in
      let x : ℕ = n + field_size C in
      elim (dec_le (zero_count C n) z) [
        | yes l ↦ l
        | no l ↦
            let s : n + 1 + z + field_size C ≡ x / B * B + (x % B + 1 + z) = omega (arith, div-add-mod' x B) in
            let lt : x % B + 1 + z < B = omega (arith, zeros_is n) in
            let q : x % B + 1 + z ≡ 0 = sym (digits_mod (x / B) lt) ∙ ap (λ (k : ℕ). k % B) (sym s) ∙ m in
            absurd (omega arith)
      ]

  field_length : (n : ℕ) → length (length_field C n) ≡ field_size C
  unfolding length_field
  field_length n = bytes_length (field_size C) _

  pub padding_length : (n : ℕ) → length (padding C n) ≡ 1 + zero_count C n + field_size C
  unfolding padding
  padding_length n =
      omega (arith, length-append (0x80 ∷ replicate (zero_count C n) 0) (length_field C n), length-replicate {A = ℕ} (zero_count C n) 0, field_length n)

  module _ (m : List ℕ) where
    padded_length : length (m ++ padding C (length m)) ≡ length m + 1 + zero_count C (length m) + field_size C
    padded_length = omega (arith, length-append m (padding C (length m)), padding_length (length m))

    -- the padded blocks: how many, each of its size, and joined the padded message
    pub blocks_count : length (blocks C m) ≡ (length m + 1 + zero_count C (length m) + field_size C) / block_size C
    unfolding blocks
    blocks_count = whole_length (block_size C) (m ++ padding C (length m)) ∙ ap (λ (k : ℕ). k / block_size C) padded_length

    pub blocks_sized : Sized (block_size C) (blocks C m)
    unfolding blocks
    blocks_sized = whole_sized (block_size C) (m ++ padding C (length m))

    pub blocks_joined : flatten (blocks C m) ≡ m ++ padding C (length m)
    unfolding blocks
    blocks_joined =
        whole_flat (block_size C) (m ++ padding C (length m)) (ap (λ (k : ℕ). k % block_size C) padded_length ∙ ends_at_block (length m))

  -- padding is injective: no two messages have the same padded blocks
  pub blocks_injective : (m n : List ℕ) → blocks C m ≡ blocks C n → m ≡ n
  unfolding padding
  blocks_injective m n e =
      let z : ℕ → ℕ = zero_count C in
      let front : List ℕ → List ℕ = λ l. l ++ (0x80 ∷ replicate (z (length l)) 0) in
      let f : List ℕ → List ℕ = λ l. length_field C (length l) in
      let whole : (l : List ℕ) → l ++ padding C (length l) ≡ front l ++ f l =
      λ l. sym (append_assoc l (0x80 ∷ replicate (z (length l)) 0) (f l)) in
      let joined : front m ++ f m ≡ front n ++ f n =
      sym (whole m) ∙ sym (blocks_joined m) ∙ ap flatten e ∙ blocks_joined n ∙ whole n in
      let same : length (f m) ≡ length (f n) = field_length (length m) ∙ sym (field_length (length n)) in
      marked m n (z (length m)) (z (length n)) (fronts (front m) (f m) (front n) (f n) same joined)
