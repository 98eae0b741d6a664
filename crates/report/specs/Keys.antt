-- Believed: the two keys of a machine (docs/PROTOCOL.md, "Reports"). Assumes nothing.
use Rattle.std.specs.Prelude.{List, ◌++◌, ℕ}
use Rattle.octets.specs.Number.{bytes}
use Rattle.algorithm.specs.Hashes.{size_of}
use Rattle.algorithm.specs.declared.hashes.Hash.{Hash}
use Rattle.hkdf.specs.Hkdf.{expand_of}

-- the purposes of a key
abbrev pub for_tag : ℕ
for_tag = 1

abbrev pub for_fingerprint : ℕ
for_fingerprint = 2

-- the info: how many bytes follow, version 1, the purpose, the tenant, the machine
unfoldable pub info_of : ℕ → ℕ → ℕ → List ℕ
info_of purpose tenant machine = bytes 2 14 ++ (bytes 1 1 ++ (bytes 1 purpose ++ (bytes 4 tenant ++ bytes 8 machine)))

-- one key, and both
abbrev pub key_of : Hash → List ℕ → ℕ → ℕ → ℕ → List ℕ
key_of h prk purpose tenant machine = expand_of h prk (info_of purpose tenant machine) (size_of h)

abbrev pub keys_of : Hash → List ℕ → ℕ → ℕ → List ℕ
keys_of h prk tenant machine = key_of h prk for_tag tenant machine ++ key_of h prk for_fingerprint tenant machine
