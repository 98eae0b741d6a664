-- Believed: words of w bits, as numbers below 2 ^ w (FIPS 180-4, sections 2.2, 3.2 and 4.1). Every operation is over the width.
-- Assumes nothing.
use Rattle.std.specs.Prelude.{ℕ, ◌+◌, ◌-◌, ◌*◌, ◌/◌, ◌%◌, ◌^◌, bit_and, bit_xor}

-- the sum modulo 2 ^ w
abbrev pub add : ℕ → ℕ → ℕ → ℕ
add w x y = (x + y) % 2 ^ w

-- every bit turned
abbrev pub complement : ℕ → ℕ → ℕ
complement w x = 2 ^ w - 1 - x

-- SHR: the n lowest bits fall away
unfoldable pub shr : ℕ → ℕ → ℕ
shr n x = x / 2 ^ n

-- ROTR: the n lowest bits go to the top
unfoldable pub rotr : ℕ → ℕ → ℕ → ℕ
rotr w n x = x % 2 ^ n * 2 ^ (w - n) + x / 2 ^ n

-- (x and y) ^ (not x and z)
abbrev pub ch : ℕ → ℕ → ℕ → ℕ → ℕ
ch w x y z = bit_xor (bit_and x y) (bit_and (complement w x) z)

-- (x and y) ^ (x and z) ^ (y and z)
abbrev pub maj : ℕ → ℕ → ℕ → ℕ
maj x y z = bit_xor (bit_xor (bit_and x y) (bit_and x z)) (bit_and y z)

-- three amounts
pub record Amounts : Type 0 where
  pub a : ℕ
  pub b : ℕ
  pub c : ℕ

-- R a ^ R b ^ R c
unfoldable pub big : ℕ → Amounts → ℕ → ℕ
big w n x = bit_xor (bit_xor (rotr w n.a x) (rotr w n.b x)) (rotr w n.c x)

-- R a ^ R b ^ S c
unfoldable pub small : ℕ → Amounts → ℕ → ℕ
small w n x = bit_xor (bit_xor (rotr w n.a x) (rotr w n.b x)) (shr n.c x)
