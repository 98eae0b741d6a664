-- Laws of the end as the code makes it: where the padding ends, the last blocks, and the digest of the last words.
-- Assumes nothing.
use Rattle.std.proofs.Common.{◌≡◌, ℕ, zero, suc, ◌+◌, ◌-◌, ◌*◌, ◌%◌, ◌^◌, ◌<◌, ◌≤◌, List, [], ◌∷◌, ◌++◌, length, get_or, take, drop, set, replicate, sym, ap, ◌∙◌, append_assoc, append-nil, le_of_suc-le-suc, not-suc-le-zero, mul-le-mul_right, add-one, arith, length-append, length-take-le}
use native.Mathlib.Nat.{div-eq_of_lt}
use native.Mathlib.Decide.{dec_le}
use lib.ListN.{length-replicate, replicate-append-replicate}
use lib.Seq.{take-append-add, take-append_seam, take-length, drop-append-add, set_at, paste}
use Rattle.octets.specs.Copy.{over}
use Rattle.octets.specs.Every.Laws.{drop_zeros}
use Rattle.octets.specs.Zeros.{zeros_to}
use Rattle.octets.specs.Zeros.Laws.{over_buffer}
use Rattle.octets.specs.Number.{bytes}
use Rattle.octets.specs.Number.Laws.{bytes_length, bytes_add, bytes_zero, bytes_last}
use Rattle.octets.specs.Parts.{part_all, take_pasted, paste_zeros, take_replicate}
use Rattle.algorithm.specs.Hashes.{block_of, size_of}
use Rattle.algorithm.specs.Hashes.Laws.{block_most, block_positive}
use Rattle.algorithm.specs.Refusals.{most_bytes}
use Rattle.hash.specs.Description.{Core, describe}
use Rattle.hash.specs.Run.{Run}
use Rattle.hash.specs.Sha2.{word_size, block_size, field_size, zero_count, length_field, padding, spell, keep}
use Rattle.hash.specs.Sha2.Laws.{spell_length}
use Rattle.hash.specs.Sha2.Padding.{zeros_after, zeros_rest, ends_at_block}
use Rattle.hash.specs.Digest.Laws.{described}
use Rattle.hash.specs.State.{largest_block, waiting_count, waiting_of, words_of, last_words, end_of}
use Rattle.hash.specs.State.Open.{end_is}
use Rattle.hash.specs.State.Laws.{waiting_less}
use Rattle.hash.specs.Inside.{padded_end}
use Rattle.hash.specs.declared.state.State.{State}

-- of a number that j bytes hold, the bytes before them are zeros
bytes_front : (k j n : ℕ) → j ≤ k → n < 256 ^ j → replicate (k - j) 0 ++ bytes j n ≡ bytes k n
bytes_front k j n h l =
    let e : k - j + j ≡ k = omega arith in
    ap (λ (r : List ℕ). r ++ bytes j n) (sym (bytes_zero (k - j)))
    ∙ ap (λ (i : ℕ). bytes (k - j) i ++ bytes j n) (sym (div-eq_of_lt l))
    ∙ sym (bytes_add (k - j) j n)
    ∙ ap (λ (i : ℕ). bytes i n) e

-- over any core whose words have at least four bytes
module _ (C : Core) (least : 4 ≤ word_size C) where
  -- the length field has eight bytes and fits a block
  sizes : (8 ≤ field_size C) × (field_size C < block_size C)
  unfolding block_size field_size
  sizes = (omega arith, omega arith)

  -- the padding ends at one block or at two
  pub end_one : (at : ℕ) → at + 1 + field_size C ≤ block_size C → block_size C ≡ padded_end C at
  end_one at h =
      let s = sizes in
      omega (arith, zeros_after C (omega arith) at 0 (at + 1 + field_size C) (omega arith) (omega arith) h)

  pub end_two : (at : ℕ) → at < block_size C → block_size C < at + 1 + field_size C → 2 * block_size C ≡ padded_end C at
  end_two at p h =
      let s = sizes in
      omega (arith, zeros_after C (omega arith) at 1 (at + 1 + field_size C - block_size C) (omega arith) (omega arith) (omega arith))

  -- it has room for the mark and eight bytes
  end_range : (at : ℕ) → at < block_size C → (at + 9 ≤ padded_end C at) × (padded_end C at ≤ 2 * block_size C)
  end_range at p =
      let s = sizes in
      elim (dec_le (at + 1 + field_size C) (block_size C)) [
        | yes l ↦ (omega arith, omega (arith, end_one at l))
        | no l ↦ (omega arith, omega (arith, end_two at p (omega arith)))
      ]

  -- the padding, with the length's last eight bytes written and zeros for those before them
  padding_is : (n : ℕ) → n ≤ most_bytes
      → 128 ∷ replicate (padded_end C (n % block_size C) - (n % block_size C + 9)) 0 ++ bytes 8 (8 * n) ≡ padding C n
  unfolding padding length_field
  padding_is n l =
      let z : ℕ = zero_count C n in
      let k : ℕ = field_size C - 8 in
      let b : List ℕ = bytes 8 (8 * n) in
      let s = sizes in
      let e : padded_end C (n % block_size C) - (n % block_size C + 9) ≡ z + k = omega (arith, zeros_rest C (omega arith) n) in
      let f : replicate k 0 ++ b ≡ bytes (field_size C) (8 * n) = bytes_front (field_size C) 8 (8 * n) (omega arith) (omega arith) in
      ap (λ (i : ℕ). 128 ∷ replicate i 0 ++ b) e
      ∙ ap (λ (r : List ℕ). 128 ∷ r ++ b) (sym (replicate-append-replicate z k 0))
      ∙ append_assoc (128 ∷ replicate z 0) (replicate k 0) b
      ∙ ap (λ (r : List ℕ). 128 ∷ replicate z 0 ++ r) f

-- the last blocks: zeros, the waiting bytes a, the mark after them, and the length b at the end
pub last_is : (a b x y : List ℕ) (at end : ℕ) → length a ≡ at → length b ≡ 8 → at + 9 ≤ end → end ≤ 256
    → x ≡ paste (replicate 256 0) 0 a (length a) → y ≡ paste (set x at 128) (end - 8) b (length b)
    → take end y ≡ a ++ (128 ∷ replicate (end - (at + 9)) 0 ++ b)
last_is a b x y at end la lb lo hi ex ey =
    let m : ℕ = 255 - at in
    let k : ℕ = end - (at + 9) in
    let t : List ℕ = a ++ 128 ∷ replicate m 0 in
    let e₁ : 256 - length a ≡ suc m = omega arith in
    let e₂ : x ≡ a ++ 0 ∷ replicate m 0 = ex ∙ paste_zeros 256 a ∙ ap (λ (n : ℕ). a ++ replicate n 0) e₁ in
    let e₃ : set x at 128 ≡ t = ap (λ (l : List ℕ). set l at 128) e₂ ∙ set_at a 0 (replicate m 0) 128 at la in
    let lt : length t ≡ 256 = omega (arith, length-append a (128 ∷ replicate m 0), length-replicate {A = ℕ} m 0) in
    let e₄ : end ≡ (end - 8) + length b = omega arith in
    let e₅ : take end y ≡ take (end - 8) t ++ b =
    ap (λ (n : ℕ). take n y) e₄ ∙ ap (take ((end - 8) + length b)) (ey ∙ ap (λ (l : List ℕ). paste l (end - 8) b (length b)) e₃) ∙ take_pasted t (end - 8) b (omega arith)
    in
    let e₆ : end - 8 ≡ length a + suc k = omega arith in
    let e₇ : take (end - 8) t ≡ a ++ 128 ∷ replicate k 0 =
    ap (λ (n : ℕ). take n t) e₆ ∙ take-append-add a (128 ∷ replicate m 0) (suc k) ∙ ap (λ (r : List ℕ). a ++ 128 ∷ r) (take_replicate k m 0 (omega arith))
    in
    e₅ ∙ ap (λ (r : List ℕ). r ++ b) e₇ ∙ append_assoc a (128 ∷ replicate k 0) b

-- the sizes that a state has them with
pub last_range : (s : State) (at end : ℕ) → at ≡ waiting_count s → end ≡ padded_end (describe s.hash).core at
    → (at ≤ largest_block) × (at + 9 ≤ end) × (end ≤ 256)
last_range s at end ea ee =
    let d = described s.hash in
    let h = waiting_less s in
    let r = end_range (describe s.hash).core d.word_least at (omega arith) in
    let m = block_most s.hash in
    (omega arith, omega arith, omega arith)

-- they are a run
pub last_run : (s : State) (at end : ℕ) (l : List ℕ) → end ≡ padded_end (describe s.hash).core at → length l ≡ end → Run (block_of s.hash) l
last_run s at end l ee el =
    let d = described s.hash in
    let p = block_positive s.hash in
    ap (λ (n : ℕ). n % block_of s.hash) (el ∙ ee) ∙ (rw d.block_is at (ends_at_block (describe s.hash).core (omega arith) at))

-- the words after them
pub last_words_is : (s : State) (at end : ℕ) (l : List ℕ) → s.count ≤ most_bytes → at ≡ waiting_count s → end ≡ padded_end (describe s.hash).core at
    → l ≡ take at s.waiting ++ (128 ∷ replicate (end - (at + 9)) 0 ++ bytes 8 (8 * s.count))
    → words_of s.hash s.words l ≡ last_words s
last_words_is s at end l h ea ee el =
    let d = described s.hash in
    let p = padding_is (describe s.hash).core d.word_least s.count h in
    ap (words_of s.hash s.words) (el ∙ rw (ee, ea) (ap (λ (r : List ℕ). waiting_of s ++ r) (rw d.block_is at p)))

-- words as bytes, one word more
spell_next : (k : ℕ) (ws : List ℕ) (i : ℕ) → i < length ws → spell k (take (suc i) ws) ≡ spell k (take i ws) ++ bytes k (get_or ws i 0)
unfolding spell
spell_next k [] i h = absurd (not-suc-le-zero h)
spell_next k (x ∷ ws) zero h = append-nil (bytes k x)
spell_next k (x ∷ ws) (suc i) h =
    ap (λ (r : List ℕ). bytes k x ++ r) (spell_next k ws i (le_of_suc-le-suc h))
    ∙ sym (append_assoc (bytes k x) (spell k (take i ws)) (bytes k (get_or ws i 0)))

-- the last k of a word's eight bytes, as a loan of them has it
pub word_part : (k x : ℕ) {b : List ℕ} → k ≤ 8 → b ≡ bytes 8 x → take (8 - (8 - k)) (drop (8 - k) b) ≡ bytes k x
word_part k x {b} h e =
    part_all b 8 (8 - k) (ap length e ∙ bytes_length 8 x) ∙ ap (drop (8 - k)) e ∙ bytes_last 8 k x h

-- bytes written after bytes that zeros follow
paste_more : (n : ℕ) (l q : List ℕ) → paste (zeros_to n l) (length l) q (length q) ≡ zeros_to n (l ++ q)
paste_more n l q =
    let z : List ℕ = replicate (n - length l) 0 in
    let e : n - length l - length q ≡ n - length (l ++ q) = omega (arith, length-append l q) in
    let d : drop (length l + length q) (l ++ z) ≡ replicate (n - length (l ++ q)) 0 =
    drop-append-add l z (length q) ∙ drop_zeros (length q) (n - length l) ∙ ap (λ (k : ℕ). replicate k 0) e
    in
    λ i. (take-append_seam l z i ++ take-length q i) ++ d i

-- each word has its place
pub room : (k i : ℕ) → k ≤ 8 → i < 8 → i * k + k ≤ 64
room k i s h = omega (arith, mul-le-mul_right k h)

-- one word more, k bytes of it, after the first i of them over zeros
pub more : (k : ℕ) (ws : List ℕ) {i : ℕ} {out p q : List ℕ} → i < length ws → out ≡ zeros_to 64 (spell k (take i ws)) → q ≡ bytes k (get_or ws i 0)
    → p ≡ paste out (i * k) q (length q) → p ≡ zeros_to 64 (spell k (take (i + 1) ws))
more k ws {i} {q = q} h e eq ep =
    let l : List ℕ = spell k (take i ws) in
    let n : length l ≡ i * k = spell_length k (take i ws) ∙ ap (λ (j : ℕ). j * k) (length-take-le i ws (omega arith)) in
    ep
    ∙ (λ j. paste (e j) (sym n j) q (length q))
    ∙ paste_more 64 l q
    ∙ ap (zeros_to 64) (ap (λ (r : List ℕ). l ++ r) eq ∙ sym (spell_next k ws i h) ∙ ap (λ (j : ℕ). spell k (take j ws)) (sym (add-one i)))

-- what the output takes of them is the digest
pub digest_over : (s : State) (ws out : List ℕ) → length ws ≡ 8 → length out ≡ size_of s.hash → ws ≡ last_words s
    → over (zeros_to 64 (spell (word_size (describe s.hash).core) ws)) out ≡ end_of s
unfolding keep
digest_over s ws out e n f =
    let w : ℕ = word_size (describe s.hash).core in
    let d = described s.hash in
    let l : length (spell w ws) ≡ 8 * w = spell_length w ws ∙ ap (λ (n : ℕ). n * w) e in
    over_buffer 64 (describe s.hash).kept (spell w ws) out (n ∙ sym d.kept_is) (omega arith) (omega arith)
    ∙ ap (keep (describe s.hash)) f
    ∙ sym (end_is s)
