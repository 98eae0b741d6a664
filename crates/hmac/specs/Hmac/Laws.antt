-- Proved: laws of HMAC and of its tags: their lengths and beginnings, that they are bytes, and what keys and messages may share.
-- Assumes nothing.
use Rattle.std.specs.Prelude.{◌≡◌, ◌↔◌, true, ℕ, ◌≤◌, length, take, drop}
use Rattle.std.proofs.Common.{sym, ◌∙◌, arith, length-take-le, take_all, take-take, take_at, drop_at}
use Rattle.std.proofs.Math.Path.{ap, ap₂}
use mathlib.Core.List.{List, ◌++◌}
use Rattle.std.proofs.Math.Dec.{ltb}
use Rattle.octets.specs.Every.{all_bytes}
use Rattle.octets.specs.Every.Laws.{every_take}
use Rattle.algorithm.specs.declared.hashes.Hash.{Hash}
use Rattle.algorithm.specs.Hashes.{block_of, size_of}
use Rattle.hash.specs.Digest.{blocks_of, from_blocks, digest_of}
use Rattle.hash.specs.Digest.Laws.{digest_length, digest_bytes, digest_from_blocks, padding_injective}
use Rattle.hmac.specs.Form.{form_of, masked, inner_pad, outer_pad}
use Rattle.hmac.specs.Form.Laws.{masked_injective, inner_length}
use Rattle.hmac.specs.Hmac.{hmac_of, inner_blocks_of, tag_of}

module _ (h : Hash) where
  module _ (k : List ℕ) where
    -- the full tag has a digest's bytes
    pub hmac_length : (m : List ℕ) → length (hmac_of h k m) ≡ size_of h
    unfolding hmac_of
    hmac_length m = digest_length h (outer_pad h k ++ digest_of h (inner_pad h k ++ m))

    -- a tag of t bytes has t, a longer one begins with it, and the longest is the full one
    pub tag_length_lem : (t : ℕ) (m : List ℕ) → t ≤ size_of h → length (tag_of h k t m) ≡ t
    tag_length_lem t m l = length-take-le t (hmac_of h k m) (omega (arith, hmac_length m))

    pub tag_begins : (t u : ℕ) (m : List ℕ) → t ≤ u → tag_of h k t m ≡ take t (tag_of h k u m)
    tag_begins t u m l = sym (take-take t u (hmac_of h k m) l)

    pub tag_full : (m : List ℕ) → tag_of h k (size_of h) m ≡ hmac_of h k m
    tag_full m = take_all (size_of h) (hmac_of h k m) (omega (arith, hmac_length m))

    -- a tag is bytes
    pub tag_bytes : (t : ℕ) (m : List ℕ) → all_bytes (tag_of h k t m) ≡ true
    unfolding hmac_of
    tag_bytes t m = every_take (λ x. ltb x 256) t (hmac_of h k m) (digest_bytes h (outer_pad h k ++ digest_of h (inner_pad h k ++ m)))

    -- the full tag comes from the blocks that the inner hash is fed, and from the outer pad
    pub hmac_from_blocks : (m : List ℕ) → hmac_of h k m ≡ digest_of h (outer_pad h k ++ from_blocks h (inner_blocks_of h k m))
    unfolding hmac_of inner_blocks_of
    hmac_from_blocks m = ap (λ (d : List ℕ). digest_of h (outer_pad h k ++ d)) (digest_from_blocks h (inner_pad h k ++ m))

  -- the inner hash is fed the same blocks exactly where the form of the key and the message are the same
  module _ (k k' m m' : List ℕ) where
    inner_form : inner_pad h k ≡ inner_pad h k' → form_of h k ≡ form_of h k'
    unfolding inner_pad
    inner_form e = masked_injective 0x36 (form_of h k) (form_of h k') e

    inner_parts : inner_pad h k ++ m ≡ inner_pad h k' ++ m' → (form_of h k ≡ form_of h k') × (m ≡ m')
    inner_parts e =
        let B : ℕ = block_of h in
        let p : List ℕ = inner_pad h k in
        let q : List ℕ = inner_pad h k' in
        let lp : length p ≡ B = inner_length h k in
        let lq : length q ≡ B = inner_length h k' in
        let front : p ≡ q = sym (take_at p m B lp) ∙ ap (take B) e ∙ take_at q m' B lq in
        let rest : m ≡ m' = sym (drop_at p m B lp) ∙ ap (drop B) e ∙ drop_at q m' B lq in
        (inner_form front, rest)

    parts_inner : (form_of h k ≡ form_of h k') × (m ≡ m') → inner_pad h k ++ m ≡ inner_pad h k' ++ m'
    unfolding inner_pad
    parts_inner e = ap₂ (λ (f l : List ℕ). masked 0x36 f ++ l) e.0 e.1

    pub inner_blocks_same : inner_blocks_of h k m ≡ inner_blocks_of h k' m' ↔ ((form_of h k ≡ form_of h k') × (m ≡ m'))
    unfolding inner_blocks_of
    inner_blocks_same = (λ e. inner_parts (padding_injective h _ _ e), λ e. ap (blocks_of h) (parts_inner e))

  -- keys with one form make the same tags
  pub same_form_same_tag : (k k' m : List ℕ) → form_of h k ≡ form_of h k' → hmac_of h k m ≡ hmac_of h k' m
  unfolding hmac_of inner_pad outer_pad
  same_form_same_tag k k' m e = ap (λ (f : List ℕ). digest_of h (masked 0x5c f ++ digest_of h (masked 0x36 f ++ m))) e
