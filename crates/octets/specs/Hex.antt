-- Believed: bytes in hexadecimal, as character codes. Assumes nothing.
use Rattle.std.specs.Prelude.{List, [], ◌∷◌, ℕ, ◌+◌, ◌/◌, ◌%◌, ltb, if◌then◌else◌, flat_map}

-- one digit: `0` to `9`, and then `a` to `f`, where 48 is `0` and 87 + 10 is `a`
abbrev pub hex_digit : ℕ → ℕ
hex_digit d = if ltb d 10 then 48 + d else 87 + d

-- the two digits of a byte, the high one first
abbrev pub hex_of_byte : ℕ → List ℕ
hex_of_byte b = hex_digit (b / 16) ∷ hex_digit (b % 16) ∷ []

-- the digits of each byte, one byte after another
abbrev pub hex_text : List ℕ → List ℕ
hex_text l = flat_map hex_of_byte l
