-- Believed: HKDF (RFC 5869), over what the HMAC crate promises: extract and expand are shut, with the laws in Hkdf/Laws.antt. Assumes
-- nothing.
pub mod Open
pub mod Laws
use Rattle.std.specs.Prelude.{cond, List, [], ◌∷◌, ◌++◌, ℕ, zero, suc, eqb, length, take, replicate}
use Rattle.algorithm.specs.declared.hashes.Hash.{Hash}
use Rattle.algorithm.specs.Hashes.{size_of}
use Rattle.algorithm.specs.Refusals.{most_digests}
use Rattle.hmac.specs.Hmac.{hmac_of}

-- 2.2: the key that a salt makes; an empty one stands for as many zeros as a digest has bytes
unfoldable pub salt_of : Hash → List ℕ → List ℕ
salt_of h salt = cond (eqb (length salt) 0) (replicate (size_of h) 0) salt

pub extract_of : Hash → List ℕ → List ℕ → List ℕ
extract_of h salt ikm = hmac_of h (salt_of h salt) ikm

-- 2.3: T(i)
unfoldable pub stretch : Hash → List ℕ → List ℕ → ℕ → List ℕ
stretch h prk info zero = []
stretch h prk info (suc i) = hmac_of h prk (stretch h prk info i ++ (info ++ (suc i ∷ [])))

-- T(1) to T(n), end to end
unfoldable pub stretches : Hash → List ℕ → List ℕ → ℕ → List ℕ
stretches h prk info zero = []
stretches h prk info (suc n) = stretches h prk info n ++ stretch h prk info (suc n)

-- the first n bytes of T(1) to T(255), as many digests as an output has at most
pub expand_of : Hash → List ℕ → List ℕ → ℕ → List ℕ
expand_of h prk info n = take n (stretches h prk info most_digests)
