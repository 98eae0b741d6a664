-- Proved: the digest opened, for this crate's own proofs alone. Assumes nothing.
use Rattle.std.specs.Prelude.{◌≡◌, ℕ, List, ◌++◌, length, refl}
use mathlib.Core.List.{foldl}
use Rattle.algorithm.specs.declared.hashes.Hash.{Hash}
use Rattle.hash.specs.Description.{describe}
use Rattle.hash.specs.Blocks.{whole_blocks}
use Rattle.hash.specs.Sha2.{block_size, padding, step, blocks, keep, digest, digest_from}
use Rattle.hash.specs.Digest.{blocks_of, digest_of}

pub blocks_is : (h : Hash) (m : List ℕ) → blocks_of h m ≡ whole_blocks (block_size (describe h).core) (m ++ padding (describe h).core (length m))
unfolding blocks_of blocks
blocks_is h m = refl

pub digest_is : (h : Hash) (m : List ℕ) → digest_of h m ≡ keep (describe h) (foldl (step (describe h).core) (describe h).first (blocks_of h m))
unfolding digest_of digest digest_from blocks_of
digest_is h m = refl
