-- Believed: HMAC (FIPS 198-1, section 4) and the truncated tag: shut, with the laws in Hmac/Laws.antt. Assumes nothing.
pub mod Open
pub mod Laws
use Rattle.std.specs.Prelude.{List, ◌++◌, ℕ, take}
use Rattle.algorithm.specs.declared.hashes.Hash.{Hash}
use Rattle.hash.specs.Digest.{blocks_of, digest_of}
use Rattle.hmac.specs.Form.{inner_pad, outer_pad}

-- the full tag of a message
pub hmac_of : Hash → List ℕ → List ℕ → List ℕ
hmac_of h k m = digest_of h (outer_pad h k ++ digest_of h (inner_pad h k ++ m))

-- the padded blocks that it feeds to the inner hash
pub inner_blocks_of : Hash → List ℕ → List ℕ → List (List ℕ)
inner_blocks_of h k m = blocks_of h (inner_pad h k ++ m)

-- a tag of t bytes: the first of the full one
abbrev pub tag_of : Hash → List ℕ → ℕ → List ℕ → List ℕ
tag_of h k t m = take t (hmac_of h k m)
