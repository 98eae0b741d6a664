-- Proved: work in pieces opened, for this crate's own proofs alone: the definitions as the code goes. Assumes nothing.
use Rattle.std.specs.Prelude.{◌≡◌, ℕ, ◌+◌, ◌-◌, ◌<◌, true, List, [], ◌++◌, length, take, drop, replicate, nat_eq, refl, ◌≤◌, false}
use Rattle.std.proofs.Common.{ap, ◌∙◌, append_assoc, arith, length-append, length-drop, take-append-drop, drop-drop, le-leb}
use Rattle.std.proofs.Math.Seq.{take-length, paste}
use Rattle.algorithm.specs.Hashes.Laws.{block_positive}
use Rattle.octets.specs.Every.{all_zero}
use Rattle.octets.specs.Every.Laws.{every_drop, all_zeros}
use Rattle.octets.specs.Parts.{part_all}
use Rattle.algorithm.specs.declared.hashes.Hash.{Hash}
use Rattle.algorithm.specs.declared.hashes.Hash.TheVariants.{Sha256}
use Rattle.algorithm.specs.Hashes.{block_of}
use Rattle.hash.specs.Description.{describe}
use Rattle.hash.specs.Blocks.Laws.{left_short, left_after_run, words_short, words_after_run}
use Rattle.hash.specs.Run.{Run}
use Rattle.hash.specs.Sha2.{step, keep}
use Rattle.hash.specs.State.{largest_block, waiting_count, waiting_of, words_of, last_words, sound_of, fresh_of, zero_state, after_of, end_of, fit}
use Rattle.hash.specs.State.Laws.{waiting_length, sound_zeros}
use Rattle.hash.specs.Inside.{Fills, with_waiting, onward_of}
use Rattle.hash.specs.declared.state.State.{State}
use Rattle.std.proofs.lemmas.Bool.{lt-leb}
use Rattle.algorithm.specs.Refusals.{most_bytes}

pub fresh_is : (h : Hash) → fresh_of h ≡ record { hash = h; words = (describe h).first; count = 0; waiting = replicate largest_block 0 }
unfolding fresh_of
fresh_is h = refl

pub zero_is : zero_state ≡ record { hash = Sha256; words = replicate 8 0; count = 0; waiting = replicate largest_block 0 }
unfolding zero_state
zero_is = refl

pub end_is : (s : State) → end_of s ≡ keep (describe s.hash) (last_words s)
unfolding end_of
end_is s = refl

-- the test of a sound state, one part after the other
module _ (s : State) where
  pub unsound_count : most_bytes < s.count → sound_of s ≡ false
  unfolding sound_of
  unsound_count h = rw (lt-leb s.count most_bytes h)

  pub unsound_waiting : s.count ≤ most_bytes → all_zero (drop (waiting_count s) s.waiting) ≡ false → sound_of s ≡ false
  unfolding sound_of
  unsound_waiting h e = rw (le-leb s.count most_bytes h, e)

  pub sound_by_words : s.count ≤ most_bytes → all_zero (drop (waiting_count s) s.waiting) ≡ true → sound_of s ≡ fit s.hash s.words
  unfolding sound_of
  sound_by_words h e = rw (le-leb s.count most_bytes h, e)

-- a piece where nothing waits
pub straight_after : (s : State) (p : List ℕ) → waiting_count s ≡ 0 → onward_of s.hash s.words (s.count + length p) p ≡ after_of s p
unfolding after_of
straight_after s p z =
    let w : waiting_of s ≡ [] = ap (λ (k : ℕ). take k s.waiting) z in
    rw w

-- a piece that fills no block
pub appended_after : (s : State) (p : List ℕ) → length s.waiting ≡ largest_block → sound_of s ≡ true → waiting_count s + length p < block_of s.hash
    → with_waiting s (paste s.waiting (waiting_count s) p (length p)) (length p) ≡ after_of s p
unfolding after_of
appended_after s p l h short =
    let a : length (waiting_of s ++ p) ≡ waiting_count s + length p = omega (arith, length-append (waiting_of s) p, waiting_length s l) in
    let lt : length (waiting_of s ++ p) < block_of s.hash = omega arith in
    let z : all_zero (drop (waiting_count s + length p) s.waiting) ≡ true =
    rw drop-drop at (every_drop (λ x. nat_eq x 0) (length p) (drop (waiting_count s) s.waiting) (sound_zeros s h))
    in
    let n : length (drop (waiting_count s + length p) s.waiting) ≡ largest_block - length (waiting_of s ++ p) =
    omega (arith, length-drop (waiting_count s + length p) s.waiting)
    in
    let e : drop (waiting_count s + length p) s.waiting ≡ replicate (largest_block - length (waiting_of s ++ p)) 0 =
    all_zeros (drop (waiting_count s + length p) s.waiting) z ∙ ap (λ (k : ℕ). replicate k 0) n
    in
    rw (words_short (block_of s.hash) (step (describe s.hash).core) s.words (waiting_of s ++ p) lt, left_short (block_of s.hash) (waiting_of s ++ p) lt, take-length p, e)

-- a piece that fills the block that has begun: that block is a run, and then comes what is left
pub filled_after : (s : State) (at room : ℕ) (p block : List ℕ) → Fills s at room p → block ≡ take at s.waiting ++ take room p → Run (block_of s.hash) block
    → onward_of s.hash (words_of s.hash s.words block) (s.count + length p) (take (length p - room) (drop room p)) ≡ after_of s p
unfolding after_of
filled_after s at room p block h eb r =
    let B = block_of s.hash in
    let f = step (describe s.hash).core in
    let d : take (length p - room) (drop room p) ≡ drop room p = part_all p (length p) room refl in
    let b : block ≡ waiting_of s ++ take room p = rw h.waits at eb in
    let e : block ++ drop room p ≡ waiting_of s ++ p =
    ap (λ (l : List ℕ). l ++ drop room p) b
    ∙ append_assoc (waiting_of s) (take room p) (drop room p)
    ∙ ap (λ (l : List ℕ). waiting_of s ++ l) (take-append-drop room p)
    in
    rw (d, ← e, words_after_run B f s.words block (drop room p) (block_positive s.hash) r, left_after_run B block (drop room p) (block_positive s.hash) r)
