-- Proved: HKDF opened, for this crate's own proofs alone. Assumes nothing.
use Rattle.std.specs.Prelude.{◌≡◌, refl, List, ℕ, take}
use Rattle.algorithm.specs.declared.hashes.Hash.{Hash}
use Rattle.algorithm.specs.Refusals.{most_digests}
use Rattle.hmac.specs.Hmac.{hmac_of}
use Rattle.hkdf.specs.Hkdf.{salt_of, extract_of, stretches, expand_of}

pub extract_is : (h : Hash) (salt ikm : List ℕ) → extract_of h salt ikm ≡ hmac_of h (salt_of h salt) ikm
unfolding extract_of
extract_is h salt ikm = refl

pub expand_is : (h : Hash) (prk info : List ℕ) (n : ℕ) → expand_of h prk info n ≡ take n (stretches h prk info most_digests)
unfolding expand_of
expand_is h prk info n = refl
