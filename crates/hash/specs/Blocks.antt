-- Believed: bytes cut into blocks, over the size of a block, and a step folded over them. Assumes nothing.
pub mod Laws
use Rattle.std.specs.Prelude.{◌≡◌, ℕ, zero, suc, ◌*◌, ◌/◌, List, [], ◌∷◌, length, take, drop}
use mathlib.Core.List.{foldl}

-- every list of a list has B elements
pub data Sized (B : ℕ) : List (List ℕ) → Type 0 where
  none : Sized B []
  more : {b : List ℕ} {bs : List (List ℕ)} → length b ≡ B → Sized B bs → Sized B (b ∷ bs)

module _ (B : ℕ) where
  -- the first n blocks of the bytes
  unfoldable pub first_blocks : ℕ → List ℕ → List (List ℕ)
  first_blocks zero l = []
  first_blocks (suc n) l = take B l ∷ first_blocks n (drop B l)

  -- all whole blocks of the bytes
  unfoldable pub whole_blocks : List ℕ → List (List ℕ)
  whole_blocks l = first_blocks (length l / B) l

  -- what is left after the last whole block
  unfoldable pub left_over : List ℕ → List ℕ
  left_over l = drop (length l / B * B) l

  -- the words after every whole block of the bytes, with a step from words and a block to words
  unfoldable pub words_after : (List ℕ → List ℕ → List ℕ) → List ℕ → List ℕ → List ℕ
  words_after step ws l = foldl step ws (whole_blocks l)
