-- Private: what the private functions ask. Assumes nothing.
use Rattle.std.specs.Prelude.{◌≡◌, true, List, ◌+◌, ◌*◌, ◌≤◌, ℕ, length}
use Rattle.algorithm.specs.Hashes.{names, hash_of, size_of}
use Rattle.algorithm.specs.Refusals.{most_bytes, most_info, most_digests}
use Rattle.hmac.specs.Keyed.{HeldKeyed}
use Rattle.hmac.specs.declared.keyed.Keyed.{Keyed}

-- a sound keyed state with room for the last block, info and the counter
pub record Stretchable (k : Keyed) (last info : List ℕ) : Type 0 where
  pub held : HeldKeyed k
  pub room : k.count + (length last + (length info + 1)) ≤ most_bytes

-- what the checks of expand let pass, with the digest's size
pub record Expandable (n size : ℕ) (prk info out : List ℕ) : Type 0 where
  pub known : names n ≡ true
  pub whole : size ≡ size_of (hash_of n)
  pub key : length prk ≤ most_bytes
  pub short : length info ≤ most_info
  pub room : length out ≤ most_digests * size_of (hash_of n)
