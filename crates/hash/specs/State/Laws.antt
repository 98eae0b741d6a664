-- Proved: laws of work in pieces, for the layers above: bytes cut anywhere lead to one state, bytes keep a state sound and are counted,
-- and a start that took a message ends in the message's digest. Assumes nothing.
use Rattle.std.specs.Prelude.{◌≡◌, ℕ, ◌+◌, ◌-◌, ◌%◌, ◌<◌, ◌≤◌, true, ◌&&◌, List, [], ◌∷◌, ◌++◌, length, take, drop, replicate, nat_eq, nat_le}
use Rattle.std.proofs.Math.Path.{refl, sym, ap}
use Rattle.std.proofs.Common.{◌∙◌, add-zero, zero-add, arith, length-drop, take-append-drop, drop_at, length-take-le}
use mathlib.Core.List.{append_assoc, append-nil, foldl}
use Rattle.std.proofs.Math.Nat.{zero-mod, mod-lt, mod-add-mod}
use Rattle.std.proofs.Math.ListN.{length-append, length-replicate}
use Rattle.std.proofs.Math.Seq.{take_at}
use borrow.Author.Tests.{le-leb, leb-true}
use Rattle.algorithm.specs.Hashes.Laws.{block_most, block_positive}
use Rattle.octets.specs.Every.{every, all_zero}
use Rattle.octets.specs.Every.Laws.{and_parts, every_drop, zeros_all, all_zeros}
use Rattle.algorithm.specs.declared.hashes.Hash.{Hash}
use Rattle.algorithm.specs.declared.hashes.Hash.TheVariants.{Sha256}
use Rattle.algorithm.specs.Hashes.{block_of, size_of}
use Rattle.algorithm.specs.Refusals.{most_bytes}
use Rattle.hash.specs.Description.{describe, narrow}
use Rattle.hash.specs.Blocks.{whole_blocks, left_over, words_after}
use Rattle.hash.specs.Blocks.Laws.{left_length, left_short, left_append, words_short, words_append}
use Rattle.hash.specs.Sha2.{step, padding, keep}
use Rattle.hash.specs.Sha2.Laws.{step_fits}
use Rattle.hash.specs.Digest.{digest_of, blocks_of}
use Rattle.hash.specs.Digest.Laws.{described, fold_length, keep_length}
use Rattle.hash.specs.Digest.Open.{blocks_is, digest_is}
use Rattle.hash.specs.State.{largest_block, waiting_count, waiting_of, fit, words_of, placed, sound_of, Held, from, fresh_of, zero_state, after_of, end_of}
use Rattle.hash.specs.declared.state.State.{State}

-- fewer bytes wait than a block has
pub waiting_less : (s : State) → waiting_count s < block_of s.hash
waiting_less s = mod-lt s.count (block_positive s.hash)

pub waiting_most : (s : State) → waiting_count s ≤ largest_block
waiting_most s = omega (arith, waiting_less s, block_most s.hash)

-- as many bytes wait as the count says
pub waiting_length : (s : State) → length s.waiting ≡ largest_block → length (waiting_of s) ≡ waiting_count s
waiting_length s w = length-take-le (waiting_count s) s.waiting (omega (arith, waiting_most s))

-- the test of a sound state, part by part
pub sound_is : (s : State) → sound_of s ≡ (nat_le s.count most_bytes && (all_zero (drop (waiting_count s) s.waiting) && fit s.hash s.words))
unfolding sound_of
sound_is s = refl

-- a state made by hand is sound where each part of the test holds
pub sound_made : (s : State) → s.count ≤ most_bytes → all_zero (drop (waiting_count s) s.waiting) ≡ true → fit s.hash s.words ≡ true → sound_of s ≡ true
unfolding sound_of
sound_made s c z w = rw (le-leb s.count most_bytes c, z) w

-- what the test of a sound state says
module _ (s : State) (h : sound_of s ≡ true) where
  sound_rest : (all_zero (drop (waiting_count s) s.waiting) && fit s.hash s.words) ≡ true
  unfolding sound_of
  sound_rest = (and_parts (nat_le s.count most_bytes) _ h).1

  pub sound_count : s.count ≤ most_bytes
  unfolding sound_of
  sound_count = leb-true s.count most_bytes (and_parts (nat_le s.count most_bytes) _ h).0

  pub sound_zeros : all_zero (drop (waiting_count s) s.waiting) ≡ true
  sound_zeros = (and_parts (all_zero (drop (waiting_count s) s.waiting)) (fit s.hash s.words) sound_rest).0

  pub sound_words : fit s.hash s.words ≡ true
  sound_words = (and_parts (all_zero (drop (waiting_count s) s.waiting)) (fit s.hash s.words) sound_rest).1

-- words that fit still fit after blocks
fold_fits : (h : Hash) (bs : List (List ℕ)) (ws : List ℕ) → fit h ws ≡ true → fit h (foldl (step (describe h).core) ws bs) ≡ true
fold_fits h [] ws p = p
fold_fits h (b ∷ bs) ws p = fold_fits h bs (step (describe h).core ws b) (step_fits (describe h).core ws b)

pub words_fit : (h : Hash) (ws l : List ℕ) → fit h ws ≡ true → fit h (words_of h ws l) ≡ true
unfolding words_after
words_fit h ws l p = fold_fits h (whole_blocks (block_of h) l) ws p

words_eight : (h : Hash) (ws l : List ℕ) → length ws ≡ 8 → length (words_of h ws l) ≡ 8
unfolding words_after
words_eight h ws l e = fold_length (describe h).core (whole_blocks (block_of h) l) ws e

module _ (s : State) (m : List ℕ) where
  -- the hash stays, and the bytes are counted
  pub after_hash : (after_of s m).hash ≡ s.hash
  unfolding after_of
  after_hash = refl

  pub after_count : (after_of s m).count ≡ s.count + length m
  unfolding after_of
  after_count = refl

module _ (s : State) (m : List ℕ) (w : length s.waiting ≡ largest_block) where
  left_waiting : length (left_over (block_of s.hash) (waiting_of s ++ m)) ≡ (s.count + length m) % block_of s.hash
  left_waiting =
      left_length (block_of s.hash) (waiting_of s ++ m)
      ∙ ap (λ (n : ℕ). n % block_of s.hash) (length-append (waiting_of s) m ∙ ap (λ (n : ℕ). n + length m) (waiting_length s w))
      ∙ mod-add-mod s.count (block_of s.hash) (length m)

  -- once bytes are taken, what waits is what they leave over of the whole blocks
  pub after_waiting : waiting_of (after_of s m) ≡ left_over (block_of s.hash) (waiting_of s ++ m)
  unfolding after_of
  after_waiting =
      take_at (left_over (block_of s.hash) (waiting_of s ++ m)) (replicate (largest_block - length (left_over (block_of s.hash) (waiting_of s ++ m))) 0) _ left_waiting

  after_waiting_size : length (after_of s m).waiting ≡ largest_block
  unfolding after_of
  after_waiting_size =
      let r : List ℕ = left_over (block_of s.hash) (waiting_of s ++ m) in
      let lt : (s.count + length m) % block_of s.hash < block_of s.hash = mod-lt (s.count + length m) (block_positive s.hash) in
      omega (arith, length-append r (replicate (largest_block - length r) 0), length-replicate {A = ℕ} (largest_block - length r) 0, left_waiting, block_most s.hash)

  -- bytes cut anywhere lead to one state
  pub after_append : (n : List ℕ) → after_of (after_of s m) n ≡ after_of s (m ++ n)
  unfolding after_of
  after_append n =
      let B = block_of s.hash in
      let l : List ℕ = waiting_of s ++ m in
      let e₀ : take ((s.count + length m) % B) (placed (left_over B l)) ≡ left_over B l = after_waiting in
      let e₁ : (s.count + length m) + length n ≡ s.count + length (m ++ n) = omega (arith, length-append m n) in
      let e₂ : l ++ n ≡ waiting_of s ++ (m ++ n) = append_assoc (waiting_of s) m n in
      let e₃ : words_of s.hash (words_of s.hash s.words l) (left_over B l ++ n) ≡ words_of s.hash s.words (waiting_of s ++ (m ++ n)) =
      sym (words_append B (step (describe s.hash).core) s.words l n (block_positive s.hash)) ∙ ap (words_of s.hash s.words) e₂
      in
      let e₄ : left_over B (left_over B l ++ n) ≡ left_over B (waiting_of s ++ (m ++ n)) =
      sym (left_append B l n (block_positive s.hash)) ∙ ap (left_over B) e₂
      in
      rw (e₀, e₁, e₃, e₄)

-- no bytes change nothing
pub after_nothing : (s : State) → Held s → after_of s [] ≡ s
unfolding after_of
after_nothing s h =
    let B = block_of s.hash in
    let n : length (waiting_of s) ≡ waiting_count s = waiting_length s h.waiting_size in
    let lt : length (waiting_of s) < B = omega (arith, waiting_less s) in
    let c : length (drop (waiting_count s) s.waiting) ≡ largest_block - length (waiting_of s) =
    omega (arith, length-drop (waiting_count s) s.waiting, h.waiting_size)
    in
    let z : drop (waiting_count s) s.waiting ≡ replicate (largest_block - length (waiting_of s)) 0 =
    all_zeros (drop (waiting_count s) s.waiting) (sound_zeros s h.sound) ∙ ap (λ (k : ℕ). replicate k 0) c
    in
    let p : placed (waiting_of s) ≡ s.waiting = ap (λ (r : List ℕ). waiting_of s ++ r) (sym z) ∙ take-append-drop (waiting_count s) s.waiting in
    rw (append-nil, words_short B (step (describe s.hash).core) s.words (waiting_of s) lt, left_short B (waiting_of s) lt, add-zero, p)

-- bytes that fit the limit keep a state sound
pub after_held : (s : State) (m : List ℕ) → Held s → s.count + length m ≤ most_bytes → Held (after_of s m)
unfolding after_of sound_of
after_held s m h fits =
    let B = block_of s.hash in
    let l : List ℕ = waiting_of s ++ m in
    let r : List ℕ = left_over B l in
    let d : all_zero (drop ((s.count + length m) % B) (placed r)) ≡ true =
    ap all_zero (drop_at r (replicate (largest_block - length r) 0) ((s.count + length m) % B) (left_waiting s m h.waiting_size)) ∙ zeros_all (largest_block - length r)
    in
    record {
      eight = words_eight s.hash s.words l h.eight;
      waiting_size = after_waiting_size s m h.waiting_size;
      sound = rw (le-leb (s.count + length m) most_bytes fits, d) (words_fit s.hash s.words l (sound_words s h.sound));
    }

-- zeros wait, so a state at count 0 is sound where its words fit
start_sound : (h : Hash) (ws : List ℕ) → fit h ws ≡ true
    → (all_zero (drop (0 % block_of h) (replicate largest_block 0)) && fit h ws) ≡ true
start_sound h ws p =
    let z : all_zero (drop (0 % block_of h) (replicate largest_block 0)) ≡ true =
    every_drop (λ x. nat_eq x 0) (0 % block_of h) (replicate largest_block 0) (zeros_all largest_block)
    in
    rw z p

-- a start is sound, with nothing taken
pub fresh_held : (h : Hash) → Held (fresh_of h)
unfolding fresh_of sound_of
fresh_held h = record { eight = (described h).first_eight; waiting_size = refl; sound = start_sound h (describe h).first (described h).first_fits }

pub fresh_hash : (h : Hash) → (fresh_of h).hash ≡ h
unfolding fresh_of
fresh_hash h = refl

pub fresh_count : (h : Hash) → (fresh_of h).count ≡ 0
unfolding fresh_of
fresh_count h = refl

-- and so is what stands for the state of a refused start: it goes on from zero words
zero_fits : fit Sha256 (replicate 8 0) ≡ true
unfolding every describe narrow
zero_fits = refl

pub zero_held : Held zero_state
unfolding zero_state sound_of
zero_held = record { eight = refl; waiting_size = refl; sound = start_sound Sha256 (replicate 8 0) zero_fits }

-- a digest comes out of every end
pub end_length : (s : State) → length s.words ≡ 8 → length (end_of s) ≡ size_of s.hash
unfolding end_of
end_length s e =
    keep_length s.hash _
    (words_eight s.hash s.words (waiting_of s ++ padding (describe s.hash).core s.count) e)

-- the end after bytes: of what waited, the bytes and the padding after them
pub end_after : (s : State) (m : List ℕ) → length s.waiting ≡ largest_block
    → end_of (after_of s m) ≡ keep (describe s.hash)
    (words_of s.hash s.words ((waiting_of s ++ m) ++ padding (describe s.hash).core (s.count + length m)))
unfolding end_of after_of
end_after s m w =
    let B = block_of s.hash in
    let l : List ℕ = waiting_of s ++ m in
    let e : take ((s.count + length m) % B) (placed (left_over B l)) ≡ left_over B l = after_waiting s m w in
    rw e
    (ap (keep (describe s.hash))
    (sym (words_append B (step (describe s.hash).core) s.words l (padding (describe s.hash).core (s.count + length m)) (block_positive s.hash))))

-- a state that had taken no byte ends in the step folded over the message's padded blocks, from its own words
pub end_from : (h : Hash) (ws m : List ℕ) → end_of (after_of (from h ws) m) ≡ keep (describe h) (foldl (step (describe h).core) ws (blocks_of h m))
unfolding words_after
end_from h ws m =
    let z : 0 % block_of h ≡ 0 = zero-mod (block_of h) in
    let o : List ℕ = replicate largest_block 0 in
    let C = (describe h).core in
    end_after (from h ws) m refl
    ∙ ap (λ (k : ℕ). keep (describe h) (words_of h ws ((take k o ++ m) ++ padding C (0 + length m)))) z
    ∙ ap (λ (k : ℕ). keep (describe h) (words_of h ws (m ++ padding C k))) (zero-add (length m))
    ∙ ap (λ (B : ℕ). keep (describe h) (foldl (step C) ws (whole_blocks B (m ++ padding C (length m))))) (sym (described h).block_is)
    ∙ ap (λ (bs : List (List ℕ)). keep (describe h) (foldl (step C) ws bs)) (sym (blocks_is h m))

-- so a start that took a message ends in the message's digest
pub end_fresh : (h : Hash) (m : List ℕ) → end_of (after_of (fresh_of h) m) ≡ digest_of h m
unfolding fresh_of
end_fresh h m = end_from h (describe h).first m ∙ sym (digest_is h m)

-- and what stands for the state of a refused start goes on from zero words
pub end_zero : (m : List ℕ) → end_of (after_of zero_state m) ≡ keep (describe Sha256) (foldl (step (describe Sha256).core) (replicate 8 0) (blocks_of Sha256 m))
unfolding zero_state
end_zero m = end_from Sha256 (replicate 8 0) m
