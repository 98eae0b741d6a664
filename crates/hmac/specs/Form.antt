-- Believed: the block form of a key, and the two pads (FIPS 198-1, section 4; docs/PROTOCOL.md, "Keys and tags"). Assumes nothing.
pub mod Laws
use Rattle.std.specs.Prelude.{◌≡◌, cond, List, ◌++◌, map, ℕ, leb, length, replicate}
use Rattle.std.specs.Int.Bits.{bit_xor}
use Rattle.octets.specs.Zeros.{zeros_to}
use Rattle.algorithm.specs.declared.hashes.Hash.{Hash}
use Rattle.algorithm.specs.Hashes.{block_of}
use Rattle.hash.specs.Digest.{digest_of}

-- the block form: a key of at most a block as it is, a longer one by its digest, with zeros to a block
unfoldable pub form_of : Hash → List ℕ → List ℕ
form_of h k = zeros_to (block_of h) (cond (leb (length k) (block_of h)) k (digest_of h k))

-- each byte XOR x
abbrev pub masked : ℕ → List ℕ → List ℕ
masked x l = map (λ b. bit_xor b x) l

-- two keys that differ only in zero bytes at the end
pub record SameButZeros (a b : List ℕ) : Type 0 where
  pub after_a : ℕ
  pub after_b : ℕ
  pub same : a ++ replicate after_a 0 ≡ b ++ replicate after_b 0

-- the inner and the outer pad
unfoldable pub inner_pad : Hash → List ℕ → List ℕ
inner_pad h k = masked 0x36 (form_of h k)

unfoldable pub outer_pad : Hash → List ℕ → List ℕ
outer_pad h k = masked 0x5c (form_of h k)
