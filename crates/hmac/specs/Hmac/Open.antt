-- Proved: HMAC opened, for this crate's own proofs alone. Assumes nothing.
use Rattle.std.specs.Prelude.{◌≡◌, refl, List, ◌++◌, ℕ}
use Rattle.algorithm.specs.declared.hashes.Hash.{Hash}
use Rattle.hash.specs.Digest.{digest_of}
use Rattle.hmac.specs.Form.{inner_pad, outer_pad}
use Rattle.hmac.specs.Hmac.{hmac_of}

pub hmac_is : (h : Hash) (k m : List ℕ) → hmac_of h k m ≡ digest_of h (outer_pad h k ++ digest_of h (inner_pad h k ++ m))
unfolding hmac_of
hmac_is h k m = refl
