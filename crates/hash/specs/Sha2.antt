-- Believed: SHA-2, once, over the description of a hash (FIPS 180-4, sections 4.1, 5.1, 5.2 and 6). Assumes nothing.
pub mod Laws
pub mod Padding
use Rattle.std.specs.Prelude.{ℕ, zero, suc, ◌+◌, ◌-◌, ◌*◌, ◌/◌, ◌%◌, List, [], ◌∷◌, ◌++◌, length, take, drop, replicate, slice_index, slice_index_or}
use mathlib.Core.List.{foldl}
use Rattle.octets.specs.Number.{number, bytes}
use Rattle.hash.specs.Word.{add, ch, maj, big, small}
use Rattle.hash.specs.Description.{Core, Description}
use Rattle.hash.specs.Blocks.{whole_blocks}

module _ (C : Core) where
  -- the bytes of a word, of a block and of the length field
  abbrev pub word_size : ℕ
  word_size = C.width / 8

  unfoldable pub block_size : ℕ
  block_size = 16 * word_size

  unfoldable pub field_size : ℕ
  field_size = 2 * word_size

  -- 4.1: the four functions with this core's amounts, and the sum
  unfoldable pub big0 : ℕ → ℕ
  big0 x = big C.width C.big0_by x

  unfoldable pub big1 : ℕ → ℕ
  big1 x = big C.width C.big1_by x

  unfoldable pub small0 : ℕ → ℕ
  small0 x = small C.width C.small0_by x

  unfoldable pub small1 : ℕ → ℕ
  small1 x = small C.width C.small1_by x

  infixl 68 ◌⊞◌
  abbrev pub ◌⊞◌ : ℕ → ℕ → ℕ
  x ⊞ y = add C.width x y

  -- 5.1: the fewest zero bytes that make a message of n bytes, byte 80, these zeros and the length field a multiple of a block
  unfoldable pub zero_count : ℕ → ℕ
  zero_count n = (block_size - (n + 1 + field_size) % block_size) % block_size

  -- the length of a message of n bytes, in bits
  unfoldable pub length_field : ℕ → List ℕ
  length_field n = bytes field_size (8 * n)

  -- what follows a message of n bytes
  unfoldable pub padding : ℕ → List ℕ
  padding n = 0x80 ∷ replicate (zero_count n) 0 ++ length_field n

  -- 5.2: the padded message as a list of blocks
  unfoldable pub blocks : List ℕ → List (List ℕ)
  blocks m = whole_blocks block_size (m ++ padding (length m))

  -- the t-th word of a block, and its first n words
  unfoldable pub word : List ℕ → ℕ → ℕ
  word b t = number (take word_size (drop (word_size * t) b))

  unfoldable pub words : List ℕ → ℕ → List ℕ
  words b zero = []
  words b (suc n) = words b n ++ (word b n ∷ [])

  -- 6, step 1: Wt from W(t-2), W(t-7), W(t-15) and W(t-16)
  unfoldable pub mix : ℕ → ℕ → ℕ → ℕ → ℕ
  mix w2 w7 w15 w16 = small1 w2 ⊞ w7 ⊞ small0 w15 ⊞ w16

  unfoldable pub next : List ℕ → ℕ → ℕ
  next ws t = mix (slice_index ws (t - 2)) (slice_index ws (t - 7)) (slice_index ws (t - 15)) (slice_index ws (t - 16))

  -- the first 16 + n words of a block's schedule
  unfoldable pub schedule : List ℕ → ℕ → List ℕ
  schedule b zero = words b 16
  schedule b (suc n) = schedule b n ++ (next (schedule b n) (16 + n) ∷ [])

  -- 6, step 3: one round, from a .. h, Kt and Wt to the next a .. h
  unfoldable pub t1 : ℕ → ℕ → ℕ → ℕ → ℕ → ℕ → ℕ
  t1 e f g h kt wt = h ⊞ big1 e ⊞ ch C.width e f g ⊞ kt ⊞ wt

  unfoldable pub t2 : ℕ → ℕ → ℕ → ℕ
  t2 a b c = big0 a ⊞ maj a b c

  unfoldable pub round : List ℕ → ℕ → ℕ → List ℕ
  round v kt wt =
      let x : ℕ = t1 (slice_index v 4) (slice_index v 5) (slice_index v 6) (slice_index v 7) kt wt in
      let y : ℕ = t2 (slice_index v 0) (slice_index v 1) (slice_index v 2) in
      x ⊞ y ∷ slice_index v 0 ∷ slice_index v 1 ∷ slice_index v 2 ∷ slice_index_or v 3 0 ⊞ x ∷ slice_index v 4 ∷ slice_index v 5 ∷ slice_index v 6 ∷ []

  -- the first t rounds, over the schedule ws
  unfoldable pub rounds : List ℕ → List ℕ → ℕ → List ℕ
  rounds ws v zero = v
  rounds ws v (suc t) = round (rounds ws v t) (slice_index C.k t) (slice_index ws t)

  -- 6, step 4: a .. h added to the eight chaining words
  unfoldable pub sums : List ℕ → List ℕ → List ℕ
  sums h v =
      let at : ℕ → ℕ = λ i. slice_index_or h i 0 ⊞ slice_index_or v i 0 in
      at 0 ∷ at 1 ∷ at 2 ∷ at 3 ∷ at 4 ∷ at 5 ∷ at 6 ∷ at 7 ∷ []

  -- the chaining words after a block
  unfoldable pub step : List ℕ → List ℕ → List ℕ
  step h b = sums h (rounds (schedule b (C.rounds - 16)) h C.rounds)

-- words as bytes, k for each, one after the other
unfoldable pub spell : ℕ → List ℕ → List ℕ
spell k [] = []
spell k (x ∷ xs) = bytes k x ++ spell k xs

module _ (D : Description) where
  -- the bytes kept of the last chaining words
  unfoldable pub keep : List ℕ → List ℕ
  keep ws = take D.kept (spell (word_size D.core) ws)

  -- the digest that blocks lead to: the step folded over them
  unfoldable pub digest_from : List (List ℕ) → List ℕ
  digest_from bs = keep (foldl (step D.core) D.first bs)

  -- the digest of a message
  unfoldable pub digest : List ℕ → List ℕ
  digest m = digest_from (blocks D.core m)
