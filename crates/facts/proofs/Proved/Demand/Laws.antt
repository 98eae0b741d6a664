-- Proved: Demand 3 holds; and the fingerprint comes from the blocks that it speaks of. Assumes nothing.
use Rattle.std.specs.Prelude.{◌≡◌, List, ◌++◌, ℕ, ◌+◌, ◌≤◌, length, take}
use Rattle.std.proofs.Common.{sym, ap, ◌∙◌, arith, lit≤, length-take-le}
use Rattle.octets.specs.Number.Laws.{number_front}
use Rattle.octets.specs.Number.{number_at}
use Rattle.algorithm.specs.declared.hashes.Hash.{Hash}
use Rattle.hash.specs.Digest.{from_blocks, digest_of}
use Rattle.hmac.specs.Form.{outer_pad}
use Rattle.hmac.specs.Form.Laws.{forms_same, form_of_digest}
use Rattle.hmac.specs.Hmac.{hmac_of, inner_blocks_of}
use Rattle.hmac.specs.Hmac.Laws.{hmac_from_blocks, inner_blocks_same, same_form_same_tag}
use Rattle.report.specs.Layout.{tag_size_of}
use Rattle.report.specs.Reading.{hash_in, tag_size_in, tag_start, before_tag, read_of, WellFormed}
use Rattle.report.specs.Reading.Laws.{tag_low, tag_high}
use Rattle.report.specs.Fingerprint.{message_of, fingerprint_of}
use Rattle.report.proofs.Proved.Fingerprint.Laws.{messages_same}
use Rattle.facts.specs.Demand.{Demand3}

-- Reports with the same bytes before their tags have the same length and the same numbers before their sites,
module _ (s t : List ℕ) (w : WellFormed s) (e : before_tag s ≡ before_tag t) where
  starts : tag_start s ≡ length (before_tag t)
  starts = sym (length-take-le (tag_start s) s (tag_high s w)) ∙ ap length e

  start_same : tag_start s ≡ tag_start t
  start_same = starts ∙ length-take-le (tag_start t) t (omega arith)

  number_same : (at n : ℕ) → at + n ≤ 45 → number_at s at n ≡ number_at t at n
  number_same at n h =
      sym (number_front (tag_start s) at n s (omega (arith, tag_low s w)))
      ∙ ap (λ (l : List ℕ). number_at l at n) e
      ∙ number_front (tag_start t) at n t (omega (arith, tag_low s w, start_same))

  length_same : length s ≡ length t
  length_same =
      let tags : tag_size_in s ≡ tag_size_in t =
      ap tag_size_of (number_same 5 1 (lit≤ tt))
      in
      omega (arith, tags, start_same, tag_low s w)

  -- and so the tag is no field: they read alike.
  tag_no_field : read_of s ≡ read_of t
  unfolding read_of
  tag_no_field =
      rw (
        e,
        length_same,
        number_same 0 4 (lit≤ tt),
        number_same 4 1 (lit≤ tt),
        number_same 5 1 (lit≤ tt),
        number_same 6 4 (lit≤ tt),
        number_same 10 8 (lit≤ tt),
        number_same 18 8 (lit≤ tt),
        number_same 26 8 (lit≤ tt),
        number_same 34 1 (lit≤ tt),
        number_same 35 8 (lit≤ tt),
        number_same 43 2 (lit≤ tt),
      )

pub demand_3 : Demand3
demand_3 = record {
  blocks = λ h key key' s t _ _ v w _ _.
      let blocks = inner_blocks_same h key key' (message_of s) (message_of t) in
      let messages = messages_same s t v w in
      (λ e. ((blocks.0 e).0, messages.0 (blocks.0 e).1), λ p. blocks.1 (p.0, messages.1 p.1));
  short_keys = forms_same;
  long_key = form_of_digest;
  tag_no_field = tag_no_field;
}

-- The fingerprint comes from these blocks and from the outer pad
pub fingerprint_is : (key s : List ℕ)
    → fingerprint_of s key ≡ take 32 (digest_of (hash_in s) (outer_pad (hash_in s) key ++ from_blocks (hash_in s) (inner_blocks_of (hash_in s) key (message_of s))))
fingerprint_is key s = ap (take 32) (hmac_from_blocks (hash_in s) key (message_of s))

-- and from the form of the key: under one hash, where the inner hashes are fed the same blocks, there is one fingerprint.
pub fingerprint_from_blocks : (h : Hash) (key key' s t : List ℕ) → hash_in s ≡ h → hash_in t ≡ h
    → inner_blocks_of h key (message_of s) ≡ inner_blocks_of h key' (message_of t)
    → fingerprint_of s key ≡ fingerprint_of t key'
fingerprint_from_blocks h key key' s t hs ht b =
    let same = (inner_blocks_same h key key' (message_of s) (message_of t)).0 b in
    rw (hs, ht) (ap (take 32) (same_form_same_tag h key key' (message_of s) same.0 ∙ ap (hmac_of h key') same.1))
