-- Believed: work in pieces under a key: a keyed state, when it is sound, and what bytes and the end make of it (docs/PROTOCOL.md, "Keys and
-- tags"). What the calls promise is shut; its laws for the layers above are in Keyed/Laws.antt. Assumes nothing.
pub mod Open
pub mod Laws
use Rattle.std.specs.Prelude.{◌≡◌, Bool, true, ◌&&◌, List, ℕ, leb, length, take, replicate}
use Rattle.algorithm.specs.declared.hashes.Hash.{Hash}
use Rattle.algorithm.specs.declared.hashes.Hash.TheVariants.{Sha256}
use Rattle.algorithm.specs.Hashes.{block_of, allowed}
use Rattle.hash.specs.declared.state.State.{State}
use Rattle.hash.specs.State.{largest_block, sound_of, fresh_of, after_of, end_of}
use Rattle.hmac.specs.Form.{inner_pad, outer_pad}
use Rattle.hmac.specs.declared.keyed.Keyed.{Keyed}

-- the inner hash at work, and the outer one, which has taken its block
abbrev pub inner_of : Keyed → State
inner_of k = record { hash = k.hash; words = k.words; count = k.count; waiting = k.waiting }

abbrev pub outer_of : Keyed → State
outer_of k = record { hash = k.hash; words = k.outer; count = block_of k.hash; waiting = replicate largest_block 0 }

-- an inner state, with a tag length and outer words
abbrev pub joined : State → ℕ → List ℕ → Keyed
joined s t ws = record { hash = s.hash; tag_length = t; words = s.words; count = s.count; waiting = s.waiting; outer = ws }

-- the test of a sound keyed state
pub sound_keyed : Keyed → Bool
sound_keyed k = sound_of (inner_of k) && (sound_of (outer_of k) && (leb (block_of k.hash) k.count && allowed k.hash k.tag_length))

-- a keyed state as the code can hold one, and sound
pub record HeldKeyed (k : Keyed) : Type 0 where
  pub eight : length k.words ≡ 8
  pub waiting_size : length k.waiting ≡ largest_block
  pub outer_eight : length k.outer ≡ 8
  pub sound : sound_keyed k ≡ true

-- the keyed state that has taken its key and no byte of a message, for tags of t bytes
pub fresh_keyed : Hash → List ℕ → ℕ → Keyed
fresh_keyed h key t = joined (after_of (fresh_of h) (inner_pad h key)) t (after_of (fresh_of h) (outer_pad h key)).words

-- what stands for the keyed state of a refused start: zeros that name hash 1
pub zero_keyed : Keyed
zero_keyed = record { hash = Sha256; tag_length = 0; words = replicate 8 0; count = 0; waiting = replicate largest_block 0; outer = replicate 8 0 }

-- the keyed state after bytes more
pub after_keyed : Keyed → List ℕ → Keyed
after_keyed k m = joined (after_of (inner_of k) m) k.tag_length k.outer

-- the full tag that a keyed state ends in
pub full_tag : Keyed → List ℕ
full_tag k = end_of (after_of (outer_of k) (end_of (inner_of k)))

-- the tag that it gives, and that a presented one is compared with: as many first bytes of the full one as its own length says
abbrev pub keyed_tag : Keyed → List ℕ
keyed_tag k = take k.tag_length (full_tag k)
