-- Believed: the hashes that we make: their numbers, their sizes (docs/PROTOCOL.md, "The hashes"), and the lengths of their tags ("Keys
-- and tags"). Assumes nothing.
pub mod Laws
use Rattle.std.specs.Prelude.{◌≡◌, Bool, cond, ◌&&◌, ◌||◌, ℕ, ◌*◌, ◌≤◌, ◌<◌, eqb, leb, Result, Ok, Err}
use Rattle.algorithm.specs.declared.hashes.Hash.{Hash}
use Rattle.algorithm.specs.declared.hashes.Hash.TheVariants.{Sha256, Sha512}
use Rattle.algorithm.specs.declared.refusals.Refusal.{Refusal}
use Rattle.algorithm.specs.declared.refusals.Refusal.TheVariants.{UnknownHash}

-- the number that names a hash
abbrev pub hash_number : Hash → ℕ
hash_number Sha256 = 1
hash_number Sha512 = 2

-- the bytes of a block
abbrev pub block_of : Hash → ℕ
block_of Sha256 = 64
block_of Sha512 = 128

-- the bytes of a digest
abbrev pub size_of : Hash → ℕ
size_of Sha256 = 32
size_of Sha512 = 64

-- the bytes of the shortest tag, half a digest
abbrev pub shortest_of : Hash → ℕ
shortest_of Sha256 = 16
shortest_of Sha512 = 32

-- whether a tag of t bytes may be asked for
abbrev pub allowed : Hash → ℕ → Bool
allowed h t = leb (shortest_of h) t && leb t (size_of h)

-- whether a number names a hash
abbrev pub names : ℕ → Bool
names n = eqb n (hash_number Sha256) || eqb n (hash_number Sha512)

-- the hash that a number names, and hash 1 where it names none
abbrev pub hash_of : ℕ → Hash
hash_of n = cond (eqb n (hash_number Sha512)) Sha512 Sha256

-- what asking for the hash of a number answers
abbrev pub which_of : ℕ → Result Hash Refusal
which_of n = cond (names n) (Ok (hash_of n)) (Err UnknownHash)

-- what is known of the sizes of a hash: the shortest tag is half a digest, a digest has a byte and fits a block, and the largest of both
pub record Sizes (h : Hash) : Type 0 where
  pub half : 2 * shortest_of h ≡ size_of h
  pub some : 0 < size_of h
  pub most : size_of h ≤ 64
  pub fits : size_of h ≤ block_of h
  pub block : block_of h ≤ 128
