-- Believed: what bytes are shown as, as character codes. Assumes nothing.
use Rattle.std.specs.Prelude.{List, [], ◌∷◌, ℕ, codes}
use Rattle.octets.specs.Hex.{hex_text}

-- in hexadecimal, and `empty` where there are none
abbrev pub bytes_text : List ℕ → List ℕ
bytes_text [] = codes "empty"
bytes_text (b ∷ l) = hex_text (b ∷ l)
