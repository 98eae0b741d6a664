-- Believed: bytes in a longer buffer of zeros. Assumes nothing.
pub mod Laws
use Rattle.std.specs.Prelude.{List, ◌++◌, ℕ, ◌-◌, length, replicate}

-- bytes with zeros after them, to n
abbrev pub zeros_to : ℕ → List ℕ → List ℕ
zeros_to n l = l ++ replicate (n - length l) 0
