-- Laws of an output that is filled block after block: the last of the blocks that are done, the next one, and the end. Assumes nothing.
use mathlib.Core.Path.{◌≡◌, sym, ap, subst, ◌∙◌}
use mathlib.Core.Bool.{true}
use mathlib.Core.List.{List, [], ◌∷◌, ◌++◌, append_assoc}
use Prim.Native.Nat.{ℕ, zero, suc, ◌+◌, ◌-◌, ◌*◌, ◌≤◌, ◌<◌}
use native.Mathlib.Nat.{lt_of_mul-lt-mul_right, mul-le-mul_right, add-mul}
use native.Mathlib.Omega.{arith}
use Rattle.std.proofs.Common.{add-one}
use lib.ListN.{length, take, drop, length-append, length-drop, drop_of_length-le}
use lib.Seq.{take-append_seam, drop-append_seam, take_all, take-append-add, drop-drop, take-nil}
use Rattle.std.specs.Prelude.{Result, Ok}
use Rattle.std.specs.Int.{div_ceil}
use Rattle.std.proofs.lemmas.Grind.{div_ceil_times}
use Rattle.octets.specs.Copy.{over}
use Rattle.octets.specs.Copy.Laws.{over_short, over_long}
use Rattle.octets.specs.Zeros.{zeros_to}
use Rattle.octets.specs.Zeros.Laws.{take_whole}
use Rattle.algorithm.specs.declared.hashes.Hash.{Hash}
use Rattle.algorithm.specs.declared.refusals.Refusal.{Refusal}
use Rattle.algorithm.specs.Hashes.{names, hash_of, size_of, allowed}
use Rattle.algorithm.specs.Hashes.Laws.{block_most, size_allowed}
use Rattle.algorithm.specs.Refusals.{most_bytes, most_info, most_digests}
use Rattle.hmac.specs.Hmac.Laws.{tag_full}
use Rattle.hmac.specs.Keyed.{HeldKeyed, fresh_keyed, after_keyed, keyed_tag}
use Rattle.hmac.specs.Keyed.Laws.{keyed_count, keyed_held, tag_fresh}
use Rattle.hmac.specs.Calls.{started_by, StartOutcome}
use Rattle.hmac.specs.Calls.Laws.{start_accepted}
use Rattle.hmac.specs.Calls.Unique.{start_answer_unique}
use Rattle.hmac.specs.declared.keyed.Keyed.{Keyed}
use Rattle.hkdf.specs.Hkdf.{stretch, stretches, expand_of}
use Rattle.hkdf.specs.Hkdf.Laws.{stretch_none, stretch_more, stretch_length, stretches_none, stretches_more, stretches_length, expand_within}
use Rattle.hkdf.specs.Inside.{Stretchable}

-- one part written after another, the last one cut
over_more : (a b o : List ℕ) → length a ≤ length o → take (length a) (over a o) ++ over b (drop (length a) (over a o)) ≡ over (a ++ b) o
over_more a b o k =
    let rest : List ℕ = drop (length a) o in
    let i : length o ≡ length a + length rest = rw length-drop (omega arith) in
    let w : over a o ≡ a ++ rest = over_short a o k in
    let v : over (a ++ b) o ≡ (a ++ take (length rest) b) ++ drop (length a + length b) o =
    ap (λ (m : ℕ). take m (a ++ b) ++ drop (length (a ++ b)) o) i
    ∙ ap (λ (x : List ℕ). x ++ drop (length (a ++ b)) o) (take-append-add a b (length rest))
    ∙ ap (λ (m : ℕ). (a ++ take (length rest) b) ++ drop m o) (length-append a b)
    in
    rw (w, take-append_seam, drop-append_seam, drop-drop) (sym (v ∙ append_assoc a _ _))

-- the blocks of d bytes that n bytes take: each begins before the end, together they reach it, and there are no more than the most digests
module _ (n d : ℕ) (some : 0 < d) where
  pub begins_before : (i : ℕ) → i < div_ceil n d → i * d < n
  begins_before i l = omega (arith, div_ceil_times n d some, mul-le-mul_right d l, add-mul i 1 d)

  pub reach_end : n ≤ div_ceil n d * d
  reach_end = (div_ceil_times n d some).0

  pub few : n ≤ most_digests * d → div_ceil n d ≤ most_digests
  few l = let k : div_ceil n d < most_digests + 1 = lt_of_mul-lt-mul_right d (omega (arith, div_ceil_times n d some)) in omega arith

-- nothing is filled before the first block
pub none_filled : (h : Hash) (prk info o : List ℕ) → over (stretches h prk info 0) o ≡ o
none_filled h prk info o = rw (stretches_none h prk info, take-nil)

-- the last of the blocks that are done, none before the first
last_of : (h : Hash) (prk info : List ℕ) (i : ℕ) → drop (length (stretches h prk info i) - size_of h) (stretches h prk info i) ≡ stretch h prk info i
last_of h prk info zero =
    ap (λ (l : List ℕ). drop (length l - size_of h) l) (stretches_none h prk info) ∙ drop_of_length-le [] (omega arith) ∙ sym (stretch_none h prk info)
last_of h prk info (suc i) =
    let S : List ℕ = stretches h prk info i in
    let T : List ℕ = stretch h prk info (i + 1) in
    let e : length (S ++ T) - size_of h ≡ length S = omega (arith, length-append S T, stretch_length h prk info i) in
    rw (← add-one i, stretches_more h prk info i) (ap (λ (n : ℕ). drop n (S ++ T)) e ∙ drop-append_seam S T)

-- the start under the key is accepted, for tags of a digest's size
pub started : (n : ℕ) (prk : List ℕ) {size : ℕ} → names n ≡ true → length prk ≤ most_bytes → size ≡ size_of (hash_of n) → (r : Result Keyed Refusal)
    → StartOutcome n prk size (started_by r) → r ≡ Ok (fresh_keyed (hash_of n) prk size)
started n prk {size} known fits whole r e =
    start_answer_unique r (Ok (fresh_keyed (hash_of n) prk size))
    (e ∙ start_accepted n prk size known fits (ap (allowed (hash_of n)) whole ∙ size_allowed (hash_of n)))

module _ (h : Hash) (prk info : List ℕ) {size : ℕ} (whole : size ≡ size_of h) {keyed : Keyed} (made : keyed ≡ fresh_keyed h prk size) where
  fresh : keyed ≡ fresh_keyed h prk (size_of h)
  fresh = made ∙ ap (fresh_keyed h prk) whole

  -- so it has room for a block
  pub room : (last : List ℕ) → length last ≤ 64 → length info ≤ most_info → Stretchable keyed last info
  room last l i =
      record {
        held = subst HeldKeyed (sym fresh) (keyed_held h prk (size_of h) (size_allowed h));
        room = omega (arith, ap (λ (x : Keyed). x.count) fresh, keyed_count h prk (size_of h), block_most h);
      }

  -- and makes the next one
  next : (i : ℕ) {last block : List ℕ} → last ≡ stretch h prk info i
      → block ≡ zeros_to 64 (keyed_tag (after_keyed keyed (last ++ (info ++ ((i + 1) ∷ [])))))
      → take size block ≡ stretch h prk info (i + 1)
  next i l b =
      ap (take size)
      (b
      ∙ (λ j. zeros_to 64 (keyed_tag (after_keyed (fresh j) (l j ++ (info ++ ((i + 1) ∷ []))))))
      ∙ ap (zeros_to 64)
      (tag_fresh h prk (size_of h) (stretch h prk info i ++ (info ++ ((i + 1) ∷ [])))
      ∙ tag_full h prk (stretch h prk info i ++ (info ++ ((i + 1) ∷ [])))
      ∙ sym (stretch_more h prk info i)))
      ∙ take_whole 64 size (stretch h prk info (i + 1)) (stretch_length h prk info i ∙ sym whole)

  -- an output of which i blocks are done, cut before the rest
  module _ (o : List ℕ) (i : ℕ) (within : i * size < length o) {out : List ℕ} (at : out ≡ over (stretches h prk info i) o)
      {done : List ℕ} (front : done ≡ take (i * size) out) where
    place : i * size ≡ length (stretches h prk info i)
    place = ap (λ (x : ℕ). i * x) whole ∙ sym (stretches_length h prk info i)

    before : done ≡ take (length (stretches h prk info i)) (over (stretches h prk info i) o)
    before = front ∙ (λ j. take (place j) (at j))

    short : length (stretches h prk info i) ≤ length o
    short = omega (arith, place)

    done_is : done ≡ stretches h prk info i
    done_is =
        before
        ∙ ap (take (length (stretches h prk info i))) (over_short (stretches h prk info i) o short)
        ∙ take-append_seam (stretches h prk info i) (drop (length (stretches h prk info i)) o)

    pub last_is : {from : ℕ} → from ≡ length done - size → take (length done - from) (drop from done) ≡ stretch h prk info i
    last_is {from} f =
        take_all (length done - from) (drop from done) (rw length-drop (omega arith))
        ∙ (λ j. drop (f j) done)
        ∙ (λ j. drop (length (done_is j) - whole j) (done_is j))
        ∙ last_of h prk info i

    pub filled : {last block rest copied : List ℕ} → last ≡ stretch h prk info i
        → block ≡ zeros_to 64 (keyed_tag (after_keyed keyed (last ++ (info ++ ((i + 1) ∷ [])))))
        → rest ≡ drop (i * size) out → copied ≡ over (take size block) rest
        → done ++ copied ≡ over (stretches h prk info (i + 1)) o
    filled {block = block} {rest = rest} {copied = copied} l b back c =
        let block_is : take size block ≡ stretch h prk info (i + 1) = next i l b in
        let after : rest ≡ drop (length (stretches h prk info i)) (over (stretches h prk info i) o) = back ∙ (λ j. drop (place j) (at j)) in
        let copied_is = c ∙ (λ j. over (block_is j) (after j)) in
        (λ j. before j ++ copied_is j)
        ∙ over_more (stretches h prk info i) (stretch h prk info (i + 1)) o short
        ∙ ap (λ (x : List ℕ). over x o) (sym (stretches_more h prk info i))

-- an output that is full
pub full : (h : Hash) (prk info o : List ℕ) {size : ℕ} → size ≡ size_of h → (i : ℕ) → i ≤ most_digests → length o ≤ i * size
    → over (stretches h prk info i) o ≡ expand_of h prk info (length o)
full h prk info o whole i b l =
    let covered : length o ≤ i * size_of h = omega (arith, ap (λ (x : ℕ). i * x) whole) in
    over_long (stretches h prk info i) o (omega (arith, stretches_length h prk info i)) ∙ sym (expand_within h prk info (length o) i b covered)
