-- Proved: laws of work in pieces under a key, for the layers above: bytes cut anywhere lead to one keyed state; they are counted, keep it
-- sound and leave its tag length; and a start that took a message ends in the message's tag. Assumes nothing.
use Rattle.std.specs.Prelude.{◌≡◌, ◌↔◌, true, false, List, [], ◌++◌, ℕ, ◌+◌, ◌%◌, ◌≤◌, ◌<◌, leb, length, take, drop}
use Rattle.std.proofs.Math.Path.{refl, ap}
use Rattle.std.proofs.Common.{sym, subst, ◌∙◌, true≢false, zero-add, arith, lit<, length-take-le, le-leb, leb-true}
use Rattle.std.proofs.Math.Nat.{mod_self}
use Rattle.std.proofs.Math.ListN.{replicate}
use Rattle.octets.specs.Every.{all_zero}
use Rattle.octets.specs.Every.Laws.{and_parts, refuted, all_zeros}
use Rattle.algorithm.specs.declared.hashes.Hash.{Hash}
use Rattle.algorithm.specs.Hashes.{block_of, size_of, allowed}
use Rattle.algorithm.specs.Refusals.{most_bytes}
use Rattle.hash.specs.declared.state.State.{State}
use Rattle.hash.specs.Digest.{digest_of}
use Rattle.hash.specs.State.{largest_block, waiting_count, sound_of, Held, fresh_of, after_of, end_of}
use Rattle.hash.specs.State.Laws.{sound_zeros, after_hash, after_count, after_append, after_nothing, after_held, fresh_held, fresh_hash, fresh_count, end_length, end_fresh}
use Rattle.algorithm.specs.Hashes.Laws.{block_most, digest_most, digest_fits_block, allowed_exactly}
use Rattle.hmac.specs.Form.{inner_pad, outer_pad}
use Rattle.hmac.specs.Form.Laws.{inner_length, outer_length}
use Rattle.hmac.specs.Hmac.{hmac_of, tag_of}
use Rattle.hmac.specs.Hmac.Open.{hmac_is}
use Rattle.hmac.specs.Keyed.{inner_of, outer_of, joined, sound_keyed, HeldKeyed, fresh_keyed, zero_keyed, after_keyed, full_tag, keyed_tag}
use Rattle.hmac.specs.declared.keyed.Keyed.{Keyed}

-- a keyed state is sound exactly where both its states are, its first block is counted and its tag length is in the range of its hash
pub sound_exactly : (k : Keyed)
    → sound_keyed k ≡ true
    ↔ ((sound_of (inner_of k) ≡ true)
    × ((sound_of (outer_of k) ≡ true) × ((block_of k.hash ≤ k.count) × (allowed k.hash k.tag_length ≡ true))))
unfolding sound_keyed
sound_exactly k = (
  λ h.
      let inner = and_parts (sound_of (inner_of k)) _ h in
      let outer = and_parts (sound_of (outer_of k)) _ inner.1 in
      let rest = and_parts (leb (block_of k.hash) k.count) (allowed k.hash k.tag_length) outer.1 in
      (inner.0, (outer.0, (leb-true (block_of k.hash) k.count rest.0, rest.1))),
  λ p. rw (p.0, p.1.0, le-leb (block_of k.hash) k.count p.1.1.0) p.1.1.1,
)

module _ (k : Keyed) (h : sound_keyed k ≡ true) where
  pub sound_inner : sound_of (inner_of k) ≡ true
  sound_inner = ((sound_exactly k).0 h).0

  pub sound_outer : sound_of (outer_of k) ≡ true
  sound_outer = ((sound_exactly k).0 h).1.0

  pub sound_block : block_of k.hash ≤ k.count
  sound_block = ((sound_exactly k).0 h).1.1.0

  pub sound_length : allowed k.hash k.tag_length ≡ true
  sound_length = ((sound_exactly k).0 h).1.1.1

  -- so the length is at most a digest's, and at most the largest digest's
  pub length_most : k.tag_length ≤ size_of k.hash
  length_most = ((allowed_exactly k.hash k.tag_length).0 sound_length).1

  pub length_fits : k.tag_length ≤ 64
  length_fits = omega (arith, length_most, digest_most k.hash)

-- each part alone makes a keyed state unsound where it fails
module _ (k : Keyed) where
  pub unsound_inner : sound_of (inner_of k) ≡ false → sound_keyed k ≡ false
  unsound_inner e = refuted (sound_keyed k) (λ h. true≢false (sym (sound_inner k h) ∙ e))

  pub unsound_outer : sound_of (outer_of k) ≡ false → sound_keyed k ≡ false
  unsound_outer e = refuted (sound_keyed k) (λ h. true≢false (sym (sound_outer k h) ∙ e))

  pub unsound_count : k.count < block_of k.hash → sound_keyed k ≡ false
  unsound_count l = refuted (sound_keyed k) (λ h. omega (arith, sound_block k h))

  pub unsound_length : allowed k.hash k.tag_length ≡ false → sound_keyed k ≡ false
  unsound_length e = refuted (sound_keyed k) (λ h. true≢false (sym (sound_length k h) ∙ e))

-- both states of a keyed one
module _ (k : Keyed) (h : HeldKeyed k) where
  pub inner_held : Held (inner_of k)
  inner_held = record { eight = h.eight; waiting_size = h.waiting_size; sound = sound_inner k h.sound }

  pub outer_held : Held (outer_of k)
  outer_held = record { eight = h.outer_eight; waiting_size = refl; sound = sound_outer k h.sound }

-- a state that has taken exactly a block keeps nothing waiting
at_block : (s : State) → Held s → s.count ≡ block_of s.hash
    → ◌≡◌ {A = State} (record { hash = s.hash; words = s.words; count = block_of s.hash; waiting = replicate largest_block 0 }) s
at_block s h e =
    let z : waiting_count s ≡ 0 = ap (λ (n : ℕ). n % block_of s.hash) e ∙ mod_self (block_of s.hash) in
    let w : all_zero s.waiting ≡ true = ap (λ (n : ℕ). all_zero (drop n s.waiting)) (sym z) ∙ sound_zeros s h.sound in
    let v : s.waiting ≡ replicate largest_block 0 = all_zeros s.waiting w ∙ ap (λ (n : ℕ). replicate n 0) h.waiting_size in
    rw (v, e)

module _ (h : Hash) (pad : List ℕ) (e : length pad ≡ block_of h) where
  -- a start that took a pad
  pub padded_count : (after_of (fresh_of h) pad).count ≡ block_of h
  padded_count = after_count (fresh_of h) pad ∙ ap (λ (n : ℕ). n + length pad) (fresh_count h) ∙ zero-add (length pad) ∙ e

  pub padded_hash : (after_of (fresh_of h) pad).hash ≡ h
  padded_hash = after_hash (fresh_of h) pad ∙ fresh_hash h

  pub padded_held : Held (after_of (fresh_of h) pad)
  padded_held = after_held (fresh_of h) pad (fresh_held h) (omega (arith, fresh_count h, block_most h))

-- the outer state of a keyed start is that of its pad
pub outer_fresh : (h : Hash) (key : List ℕ) (t : ℕ) → outer_of (fresh_keyed h key t) ≡ after_of (fresh_of h) (outer_pad h key)
unfolding fresh_keyed
outer_fresh h key t =
    let s : State = after_of (fresh_of h) (outer_pad h key) in
    let g : s.hash ≡ h = padded_hash h (outer_pad h key) (outer_length h key) in
    let i : (after_of (fresh_of h) (inner_pad h key)).hash ≡ h = padded_hash h (inner_pad h key) (inner_length h key) in
    ap (λ (x : Hash). record { hash = x; words = s.words; count = block_of x; waiting = replicate largest_block 0 }) (i ∙ sym g)
    ∙ at_block s (padded_held h (outer_pad h key) (outer_length h key)) (padded_count h (outer_pad h key) (outer_length h key) ∙ ap block_of (sym g))

pub inner_fresh : (h : Hash) (key : List ℕ) (t : ℕ) → inner_of (fresh_keyed h key t) ≡ after_of (fresh_of h) (inner_pad h key)
unfolding fresh_keyed
inner_fresh h key t = refl

-- a keyed state is held where both its states are, its first block is counted and its tag length is in range
pub held_keyed : (k : Keyed) → Held (inner_of k) → Held (outer_of k) → block_of k.hash ≤ k.count → allowed k.hash k.tag_length ≡ true
    → HeldKeyed k
held_keyed k i o b a =
    record {
      eight = i.eight;
      waiting_size = i.waiting_size;
      outer_eight = o.eight;
      sound = (sound_exactly k).1 (i.sound, (o.sound, (b, a)));
    }

-- a keyed start names its hash, carries its tag length, has counted its first block, and is sound where that length may be asked for
module _ (h : Hash) (key : List ℕ) (t : ℕ) where
  pub keyed_hash : (fresh_keyed h key t).hash ≡ h
  unfolding fresh_keyed
  keyed_hash = padded_hash h (inner_pad h key) (inner_length h key)

  pub keyed_length : (fresh_keyed h key t).tag_length ≡ t
  unfolding fresh_keyed
  keyed_length = refl

  pub keyed_count : (fresh_keyed h key t).count ≡ block_of h
  unfolding fresh_keyed
  keyed_count = padded_count h (inner_pad h key) (inner_length h key)

  pub keyed_held : allowed h t ≡ true → HeldKeyed (fresh_keyed h key t)
  keyed_held asked =
      held_keyed (fresh_keyed h key t)
      (subst Held (sym (inner_fresh h key t)) (padded_held h (inner_pad h key) (inner_length h key)))
      (subst Held (sym (outer_fresh h key t)) (padded_held h (outer_pad h key) (outer_length h key)))
      (omega (arith, keyed_count, ap block_of keyed_hash))
      ((λ i. allowed (keyed_hash i) (keyed_length i)) ∙ asked)

-- what stands for the keyed state of a refused start is not sound, for two reasons: its count is below a block, and its tag length out of range
pub zero_count_lem : zero_keyed.count < block_of zero_keyed.hash
unfolding zero_keyed
zero_count_lem = lit< tt

pub zero_length : allowed zero_keyed.hash zero_keyed.tag_length ≡ false
unfolding zero_keyed
zero_length = refl

pub zero_not_sound : sound_keyed zero_keyed ≡ false
zero_not_sound = unsound_length zero_keyed zero_length

module _ (k : Keyed) (m : List ℕ) where
  -- the hash, the tag length and the outer words stay, and the bytes are counted
  pub keyed_after_inner : inner_of (after_keyed k m) ≡ after_of (inner_of k) m
  unfolding after_keyed
  keyed_after_inner = refl

  pub keyed_after_hash : (after_keyed k m).hash ≡ k.hash
  unfolding after_keyed
  keyed_after_hash = after_hash (inner_of k) m

  pub keyed_after_length : (after_keyed k m).tag_length ≡ k.tag_length
  unfolding after_keyed
  keyed_after_length = refl

  pub keyed_after_count : (after_keyed k m).count ≡ k.count + length m
  unfolding after_keyed
  keyed_after_count = after_count (inner_of k) m

  pub keyed_after_outer : outer_of (after_keyed k m) ≡ outer_of k
  unfolding after_keyed
  keyed_after_outer = ap (λ (x : Hash). record { hash = x; words = k.outer; count = block_of x; waiting = replicate largest_block 0 }) (after_hash (inner_of k) m)

  -- bytes that fit the limit keep a keyed state sound
  pub keyed_after_held : HeldKeyed k → k.count + length m ≤ most_bytes → HeldKeyed (after_keyed k m)
  keyed_after_held h l =
      held_keyed (after_keyed k m)
      (subst Held (sym keyed_after_inner) (after_held (inner_of k) m (inner_held k h) l))
      (subst Held (sym keyed_after_outer) (outer_held k h))
      (omega (arith, keyed_after_count, ap block_of keyed_after_hash, sound_block k h.sound))
      ((λ i. allowed (keyed_after_hash i) (keyed_after_length i)) ∙ sound_length k h.sound)

-- bytes cut anywhere lead to one keyed state
pub keyed_after_append : (k : Keyed) (m n : List ℕ) → length k.waiting ≡ largest_block → after_keyed (after_keyed k m) n ≡ after_keyed k (m ++ n)
unfolding after_keyed
keyed_after_append k m n w = ap (λ (s : State). joined s k.tag_length k.outer) (after_append (inner_of k) m w n)

-- no bytes change nothing
pub keyed_after_nothing : (k : Keyed) → HeldKeyed k → after_keyed k [] ≡ k
unfolding after_keyed
keyed_after_nothing k h = ap (λ (s : State). joined s k.tag_length k.outer) (after_nothing (inner_of k) (inner_held k h))

-- every full tag has a digest's size
pub full_length : (k : Keyed) → HeldKeyed k → length (full_tag k) ≡ size_of k.hash
unfolding full_tag
full_length k h =
    let d : List ℕ = end_of (inner_of k) in
    let l : length d ≡ size_of k.hash = end_length (inner_of k) h.eight in
    let fits : block_of k.hash + length d ≤ most_bytes = omega (arith, digest_fits_block k.hash, block_most k.hash) in
    end_length (after_of (outer_of k) d) (after_held (outer_of k) d (outer_held k h) fits).eight ∙ ap size_of (after_hash (outer_of k) d)

-- the tag has as many bytes as the keyed state's length says
pub keyed_tag_length : (k : Keyed) → HeldKeyed k → length (keyed_tag k) ≡ k.tag_length
keyed_tag_length k h = length-take-le k.tag_length (full_tag k) (omega (arith, full_length k h, length_most k h.sound))

-- a keyed start that took a message ends in the message's full tag, and gives its tag of the start's length
pub full_fresh : (h : Hash) (key : List ℕ) (t : ℕ) (m : List ℕ) → full_tag (after_keyed (fresh_keyed h key t) m) ≡ hmac_of h key m
unfolding full_tag
full_fresh h key t m =
    let inner : List ℕ = inner_pad h key in
    let outer : List ℕ = outer_pad h key in
    let k : Keyed = fresh_keyed h key t in
    let d : end_of (inner_of (after_keyed k m)) ≡ digest_of h (inner ++ m) =
    ap end_of (keyed_after_inner k m ∙ ap (λ (s : State). after_of s m) (inner_fresh h key t) ∙ after_append (fresh_of h) inner (fresh_held h).waiting_size m)
    ∙ end_fresh h (inner ++ m)
    in
    let o : outer_of (after_keyed k m) ≡ after_of (fresh_of h) outer = keyed_after_outer k m ∙ outer_fresh h key t in
    (λ i. end_of (after_of (o i) (d i)))
    ∙ ap end_of (after_append (fresh_of h) outer (fresh_held h).waiting_size (digest_of h (inner ++ m)))
    ∙ end_fresh h (outer ++ digest_of h (inner ++ m))
    ∙ sym (hmac_is h key m)

pub tag_fresh : (h : Hash) (key : List ℕ) (t : ℕ) (m : List ℕ) → keyed_tag (after_keyed (fresh_keyed h key t) m) ≡ tag_of h key t m
tag_fresh h key t m = λ i. take ((keyed_after_length (fresh_keyed h key t) m ∙ keyed_length h key t) i) (full_fresh h key t m i)
