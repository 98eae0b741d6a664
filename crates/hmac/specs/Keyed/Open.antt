-- Proved: work in pieces under a key opened, for this crate's own proofs alone: the definitions as the code goes. Assumes nothing.
use Rattle.std.specs.Prelude.{◌≡◌, refl, true, List, ℕ, ◌≤◌, replicate}
use Rattle.std.proofs.Common.{le-leb}
use Rattle.algorithm.specs.declared.hashes.Hash.{Hash}
use Rattle.algorithm.specs.declared.hashes.Hash.TheVariants.{Sha256}
use Rattle.algorithm.specs.Hashes.{block_of, allowed}
use Rattle.hash.specs.State.{largest_block, sound_of, fresh_of, after_of, end_of}
use Rattle.hmac.specs.Form.{inner_pad, outer_pad}
use Rattle.hmac.specs.Keyed.{inner_of, outer_of, joined, sound_keyed, fresh_keyed, zero_keyed, after_keyed, full_tag}
use Rattle.hmac.specs.declared.keyed.Keyed.{Keyed}

pub zero_is : zero_keyed ≡ record { hash = Sha256; tag_length = 0; words = replicate 8 0; count = 0; waiting = replicate largest_block 0; outer = replicate 8 0 }
unfolding zero_keyed
zero_is = refl

pub fresh_is : (h : Hash) (key : List ℕ) (t : ℕ)
    → fresh_keyed h key t ≡ joined (after_of (fresh_of h) (inner_pad h key)) t (after_of (fresh_of h) (outer_pad h key)).words
unfolding fresh_keyed
fresh_is h key t = refl

pub after_is : (k : Keyed) (m : List ℕ) → after_keyed k m ≡ joined (after_of (inner_of k) m) k.tag_length k.outer
unfolding after_keyed
after_is k m = refl

pub full_is : (k : Keyed) → full_tag k ≡ end_of (after_of (outer_of k) (end_of (inner_of k)))
unfolding full_tag
full_is k = refl

-- where all other parts of the test of a sound keyed state hold, the tag length decides
pub sound_by_length : (k : Keyed) → sound_of (inner_of k) ≡ true → sound_of (outer_of k) ≡ true → block_of k.hash ≤ k.count
    → sound_keyed k ≡ allowed k.hash k.tag_length
unfolding sound_keyed
sound_by_length k h g b = rw (h, g, le-leb (block_of k.hash) k.count b)
