-- Two spellings of a function on the bits of three numbers are one where they agree on single bits. Assumes nothing.
use Rattle.std.proofs.Common.{◌≡◌, ℕ, zero, suc, ◌+◌, ◌/◌, ◌%◌, ◌<◌, ◌≤◌, sym, refl, ◌∙◌, ap₂, mod-lt, div-add-mod', arith, lit<}
use lib.Arith.{half_le}
use lib.Bits.{bit_and, bit_xor, and_shr, and_mod, xor_shr, xor_mod}
use Rattle.hash.specs.Word.{maj}

-- a function whose lowest bit comes from the lowest bits alone, and whose other bits come from the others in the same way
record Bitwise (F : ℕ → ℕ → ℕ → ℕ) : Type 0 where
  half : (a b c : ℕ) → F a b c / 2 ≡ F (a / 2) (b / 2) (c / 2)
  low : (a b c : ℕ) → F a b c % 2 ≡ F (a % 2) (b % 2) (c % 2)

-- each of the three arguments by itself is such a function
of_first : Bitwise (λ a b c. a)
of_first = record { half = λ a b c. refl; low = λ a b c. refl }

of_second : Bitwise (λ a b c. b)
of_second = record { half = λ a b c. refl; low = λ a b c. refl }

of_third : Bitwise (λ a b c. c)
of_third = record { half = λ a b c. refl; low = λ a b c. refl }

-- a number below 2 is 0 or 1
a_bit : (P : ℕ → Type 0) → P 0 → P 1 → (x : ℕ) → x < 2 → P x
a_bit P p q zero h = p
a_bit P p q (suc zero) h = q
a_bit P p q (suc (suc x)) h = absurd (omega arith)

module _ {F G : ℕ → ℕ → ℕ → ℕ} (f : Bitwise F) (g : Bitwise G) where
  -- and so is what `and` or `xor` makes of two such functions
  of_and : Bitwise (λ a b c. bit_and (F a b c) (G a b c))
  of_and =
      record {
        half = λ a b c. and_shr (F a b c) (G a b c) 1 ∙ ap₂ bit_and (f.half a b c) (g.half a b c);
        low = λ a b c. and_mod (F a b c) (G a b c) 1 ∙ ap₂ bit_and (f.low a b c) (g.low a b c);
      }

  of_xor : Bitwise (λ a b c. bit_xor (F a b c) (G a b c))
  of_xor =
      record {
        half = λ a b c. xor_shr (F a b c) (G a b c) 1 ∙ ap₂ bit_xor (f.half a b c) (g.half a b c);
        low = λ a b c. xor_mod (F a b c) (G a b c) 1 ∙ ap₂ bit_xor (f.low a b c) (g.low a b c);
      }

  -- eight tests say that they agree on single bits
  on_bits : F 0 0 0 ≡ G 0 0 0 → F 0 0 1 ≡ G 0 0 1 → F 0 1 0 ≡ G 0 1 0 → F 0 1 1 ≡ G 0 1 1
      → F 1 0 0 ≡ G 1 0 0 → F 1 0 1 ≡ G 1 0 1 → F 1 1 0 ≡ G 1 1 0 → F 1 1 1 ≡ G 1 1 1
      → (a b c : ℕ) → a < 2 → b < 2 → c < 2 → F a b c ≡ G a b c
  on_bits e000 e001 e010 e011 e100 e101 e110 e111 a b c i j k =
      let third_of : (x y : ℕ) → F x y 0 ≡ G x y 0 → F x y 1 ≡ G x y 1 → F x y c ≡ G x y c =
      λ x y p q. a_bit (λ z. F x y z ≡ G x y z) p q c k in
      let second_of : (x : ℕ) → F x 0 c ≡ G x 0 c → F x 1 c ≡ G x 1 c → F x b c ≡ G x b c =
      λ x p q. a_bit (λ y. F x y c ≡ G x y c) p q b j in
      a_bit (λ x. F x b c ≡ G x b c)
      (second_of 0 (third_of 0 0 e000 e001) (third_of 0 1 e010 e011))
      (second_of 1 (third_of 1 0 e100 e101) (third_of 1 1 e110 e111))
      a i

  -- then they agree on numbers up to n, by halving
  up_to : ((a b c : ℕ) → a < 2 → b < 2 → c < 2 → F a b c ≡ G a b c) → (n a b c : ℕ) → a ≤ n → b ≤ n → c ≤ n → F a b c ≡ G a b c
  up_to e zero a b c i j k = e a b c (omega arith) (omega arith) (omega arith)
  up_to e (suc n) a b c i j k =
      let halves : F a b c / 2 ≡ G a b c / 2 =
      f.half a b c ∙ up_to e n (a / 2) (b / 2) (c / 2) (half_le i) (half_le j) (half_le k) ∙ sym (g.half a b c) in
      let lows : F a b c % 2 ≡ G a b c % 2 =
      f.low a b c ∙ e (a % 2) (b % 2) (c % 2) (mod-lt a (lit< tt)) (mod-lt b (lit< tt)) (mod-lt c (lit< tt)) ∙ sym (g.low a b c) in
      omega (arith, div-add-mod' (F a b c) 2, div-add-mod' (G a b c) 2, halves, lows)

  -- then they agree on all numbers
  agreeing : F 0 0 0 ≡ G 0 0 0 → F 0 0 1 ≡ G 0 0 1 → F 0 1 0 ≡ G 0 1 0 → F 0 1 1 ≡ G 0 1 1
      → F 1 0 0 ≡ G 1 0 0 → F 1 0 1 ≡ G 1 0 1 → F 1 1 0 ≡ G 1 1 0 → F 1 1 1 ≡ G 1 1 1 → (a b c : ℕ) → F a b c ≡ G a b c
  agreeing e000 e001 e010 e011 e100 e101 e110 e111 a b c =
      up_to (on_bits e000 e001 e010 e011 e100 e101 e110 e111) (a + b + c) a b c (omega arith) (omega arith) (omega arith)

pub xor_assoc : (a b c : ℕ) → bit_xor a (bit_xor b c) ≡ bit_xor (bit_xor a b) c
xor_assoc =
    agreeing (of_xor of_first (of_xor of_second of_third)) (of_xor (of_xor of_first of_second) of_third)
    refl refl refl refl refl refl refl refl

-- `and` distributes over `xor`
pub and_of_xor : (a b c : ℕ) → bit_and (bit_xor a b) c ≡ bit_xor (bit_and a c) (bit_and b c)
and_of_xor =
    agreeing (of_and (of_xor of_first of_second) of_third) (of_xor (of_and of_first of_third) (of_and of_second of_third))
    refl refl refl refl refl refl refl refl

-- the bits of y where those of x are set, and those of z elsewhere, in two spellings
pub choice : (x y z : ℕ) → bit_xor (bit_and x (bit_xor y z)) z ≡ bit_xor (bit_and x y) (bit_xor z (bit_and x z))
choice =
    agreeing (of_xor (of_and of_first (of_xor of_second of_third)) of_third)
    (of_xor (of_and of_first of_second) (of_xor of_third (of_and of_first of_third)))
    refl refl refl refl refl refl refl refl

-- Maj, with one operation less
pub majority : (x y z : ℕ) → bit_xor (bit_and (bit_xor x y) (bit_xor y z)) y ≡ maj x y z
majority =
    agreeing (of_xor (of_and (of_xor of_first of_second) (of_xor of_second of_third)) of_second)
    (of_xor (of_xor (of_and of_first of_second) (of_and of_first of_third)) (of_and of_second of_third))
    refl refl refl refl refl refl refl refl
