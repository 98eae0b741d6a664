-- Believed: the hashes that we make, as the layers above see them: shut, with their laws in Digest/Laws.antt. Assumes nothing.
pub mod Open
pub mod Laws
use Rattle.std.specs.Prelude.{◌≡◌, ℕ, ◌+◌, ◌*◌, ◌/◌, ◌^◌, ◌≤◌, true, List, length, nat_lt}
use Rattle.octets.specs.Every.{every}
use Rattle.algorithm.specs.declared.hashes.Hash.{Hash}
use Rattle.algorithm.specs.Hashes.{block_of, size_of}
use Rattle.hash.specs.Description.{describe}
use Rattle.hash.specs.Sha2.{word_size, block_size, blocks, digest, digest_from, zero_count, field_size}

-- the padded blocks of a message
pub blocks_of : Hash → List ℕ → List (List ℕ)
blocks_of h m = blocks (describe h).core m

-- the digest that blocks lead to
pub from_blocks : Hash → List (List ℕ) → List ℕ
from_blocks h bs = digest_from (describe h) bs

-- the digest of a message: that of its padded blocks
pub digest_of : Hash → List ℕ → List ℕ
digest_of h m = digest (describe h) m

-- how many padded blocks a message of n bytes has; this one computes
unfoldable pub block_count_of : Hash → ℕ → ℕ
block_count_of h n = (n + 1 + zero_count (describe h).core n + field_size (describe h).core) / block_of h

-- what we know of the description of a hash: its sizes are those of the algorithm crate, a word has four to eight bytes, no more
-- is kept than eight words have, and the first words are eight that fit
pub record Described (h : Hash) : Type 0 where
  pub block_is : block_size (describe h).core ≡ block_of h
  pub kept_is : (describe h).kept ≡ size_of h
  pub word_least : 4 ≤ word_size (describe h).core
  pub word_most : word_size (describe h).core ≤ 8
  pub kept_most : (describe h).kept ≤ 8 * word_size (describe h).core
  pub first_eight : length (describe h).first ≡ 8
  pub first_fits : every (λ x. nat_lt x (2 ^ (describe h).core.width)) (describe h).first ≡ true
