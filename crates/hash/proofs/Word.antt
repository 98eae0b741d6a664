-- Laws of words, over the width: what the code computes is what the definition says. Assumes nothing.
use Rattle.std.proofs.Common.{◌≡◌, ℕ, ◌+◌, ◌-◌, ◌*◌, ◌/◌, ◌%◌, ◌^◌, ◌<◌, ◌≤◌, Bool, ◌&&◌, ltb, sym, ap, ◌∙◌, subst, ap₂, add-zero, mod-lt, mod-eq_of_lt, mul_assoc, add-mul, add_comm, mul-div_cancel, arith, pow_pos, pow-add, shr-shr, shr_lt, le-ltb, lt-ltb}
use native.Mathlib.Nat.{mul-mod_left}
use native.Mathlib.Decide.{dec_lt}
use lib.Arith.{mod-mul, digits_lt}
use lib.Pow.{split, high, low, mod-pow-add, le_ones}
use lib.Bits.{bit_and, bit_or, bit_xor, and_le_l, and_le_r, and_comm, and_mask, or_lt, or_add_and, or_shifted_r, xor_lt, xor_add_and, xor_shr, xor_mod, xor_block}
use Rattle.hash.specs.Word.{Amounts, complement, ch, shr, rotr, big, small}
use Rattle.hash.proofs.Bits.{xor_assoc, and_of_xor, choice}

-- of a word shifted left by k, the width j + k keeps the j lowest bits
low_bits : (j k x : ℕ) → (x * 2 ^ k) % 2 ^ (j + k) ≡ x % 2 ^ j * 2 ^ k
low_bits j k x =
    ap (λ (m : ℕ). (x * 2 ^ k) % m) (pow-add 2 j k)
    ∙ mod-mul (x * 2 ^ k) (pow_pos j) (pow_pos k)
    ∙ ap₂ (λ (a b : ℕ). a % 2 ^ j * 2 ^ k + b) (mul-div_cancel x (pow_pos k)) (mul-mod_left x (2 ^ k))
    ∙ add-zero (x % 2 ^ j * 2 ^ k)

-- what is left of a word after a shift by n has n bits less
shifted_lt : (w n : ℕ) {x : ℕ} → n ≤ w → x < 2 ^ w → x / 2 ^ n < 2 ^ (w - n)
shifted_lt w n {x} h hx =
    let e : (w - n) + n ≡ w = omega arith in
    shr_lt (w - n) n (subst (λ (m : ℕ). x < 2 ^ m) (sym e) hx)

-- a rotation as the library has it: two shifts joined by `or`
abbrev turned : ℕ → ℕ → ℕ → ℕ
turned w n x = bit_or (x / 2 ^ n) ((x * 2 ^ (w - n)) % 2 ^ w)

pub rotr_code : (w n : ℕ) {x : ℕ} → n ≤ w → x < 2 ^ w → turned w n x ≡ rotr w n x
unfolding rotr
rotr_code w n {x} h hx =
    let e : n + (w - n) ≡ w = omega arith in
    ap (bit_or (x / 2 ^ n)) (ap (λ (m : ℕ). (x * 2 ^ (w - n)) % 2 ^ m) (sym e) ∙ low_bits n (w - n) x)
    ∙ or_shifted_r (x % 2 ^ n) (w - n) (x / 2 ^ n) (shifted_lt w n h hx)

-- a rotation stays within the width
rotr_lt : (w n : ℕ) {x : ℕ} → n ≤ w → x < 2 ^ w → rotr w n x < 2 ^ w
unfolding rotr
rotr_lt w n {x} h hx =
    let e : n + (w - n) ≡ w = omega arith in
    subst (λ (m : ℕ). x % 2 ^ n * 2 ^ (w - n) + x / 2 ^ n < m) (sym (pow-add 2 n (w - n)) ∙ ap (λ (m : ℕ). 2 ^ m) e)
    (digits_lt (mod-lt x (pow_pos n)) (shifted_lt w n h hx))

-- of two words joined by `xor`, each is rotated
rotr_xor : (w n : ℕ) {x y : ℕ} → n ≤ w → x < 2 ^ w → y < 2 ^ w → rotr w n (bit_xor x y) ≡ bit_xor (rotr w n x) (rotr w n y)
unfolding rotr
rotr_xor w n {x} {y} h hx hy =
    ap₂ (λ (a b : ℕ). a * 2 ^ (w - n) + b) (xor_mod x y n) (xor_shr x y n)
    ∙ sym (xor_block (w - n) (x % 2 ^ n) (y % 2 ^ n) (x / 2 ^ n) (y / 2 ^ n) (shifted_lt w n h hx) (shifted_lt w n h hy))

-- two rotations are one by both amounts
rotr_rotr : (w m n x : ℕ) → m + n ≤ w → rotr w m (rotr w n x) ≡ rotr w (m + n) x
unfolding rotr
rotr_rotr w m n x h =
    let i : ℕ = w - (m + n) in
    let a : ℕ = x % 2 ^ n in
    let q : ℕ = x / 2 ^ n in
    let j : w - n ≡ i + m = omega arith in
    let k : w - m ≡ n + i = omega arith in
    let y : a * 2 ^ (w - n) + q ≡ (a * 2 ^ i + q / 2 ^ m) * 2 ^ m + q % 2 ^ m =
    omega (
      arith,
      ap (λ (l : ℕ). a * 2 ^ l) j ∙ ap (λ (l : ℕ). a * l) (pow-add 2 i m) ∙ sym (mul_assoc a (2 ^ i) (2 ^ m)),
      add-mul (a * 2 ^ i) (q / 2 ^ m) (2 ^ m),
      split q m,
    )
    in
    let l : q % 2 ^ m < 2 ^ m = mod-lt q (pow_pos m) in
    let lows : (a * 2 ^ (w - n) + q) % 2 ^ m ≡ q % 2 ^ m = ap (λ (z : ℕ). z % 2 ^ m) y ∙ low (a * 2 ^ i + q / 2 ^ m) m l in
    let highs : (a * 2 ^ (w - n) + q) / 2 ^ m ≡ a * 2 ^ i + q / 2 ^ m = ap (λ (z : ℕ). z / 2 ^ m) y ∙ high (a * 2 ^ i + q / 2 ^ m) m l in
    let up : q % 2 ^ m * 2 ^ (w - m) ≡ q % 2 ^ m * 2 ^ n * 2 ^ i =
    ap (λ (l : ℕ). q % 2 ^ m * 2 ^ l) k ∙ ap (λ (l : ℕ). q % 2 ^ m * l) (pow-add 2 n i) ∙ sym (mul_assoc (q % 2 ^ m) (2 ^ n) (2 ^ i))
    in
    let both : x % 2 ^ (m + n) * 2 ^ i ≡ q % 2 ^ m * 2 ^ n * 2 ^ i + a * 2 ^ i =
    ap (λ (z : ℕ). z * 2 ^ i) (mod-pow-add x m n) ∙ add-mul (q % 2 ^ m * 2 ^ n) a (2 ^ i)
    in
    let far : q / 2 ^ m ≡ x / 2 ^ (m + n) = shr-shr x n m ∙ ap (λ (z : ℕ). x / 2 ^ z) (add_comm n m) in
    ap₂ (λ (u v : ℕ). u * 2 ^ (w - m) + v) lows highs ∙ omega (arith, up, both, far)

-- x joined with y rotated by b - a, and all that rotated by a: x is then rotated by a, and y by b
rotr_onto : (w a b : ℕ) {x y : ℕ} → a ≤ b → b ≤ w → x < 2 ^ w → y < 2 ^ w
    → rotr w a (bit_xor x (rotr w (b - a) y)) ≡ bit_xor (rotr w a x) (rotr w b y)
rotr_onto w a b {x} {y} h k hx hy =
    let e : a + (b - a) ≡ b = omega arith in
    rotr_xor w a (omega arith) hx (rotr_lt w (b - a) (omega arith) hy)
    ∙ ap (bit_xor (rotr w a x)) (rotr_rotr w a (b - a) y (omega arith) ∙ ap (λ (m : ℕ). rotr w m y) e)

-- a word joined with a rotated one stays within the width
joined_lt : (w n : ℕ) {x y z : ℕ} → n ≤ w → x < 2 ^ w → y < 2 ^ w → z ≡ rotr w n y → bit_xor x z < 2 ^ w
joined_lt w n {x} {y} {z} h hx hy e = xor_lt w x z hx (subst (λ (v : ℕ). v < 2 ^ w) (sym e) (rotr_lt w n h hy))

-- the four sigma functions, from nested rotations
pub big_code : (w : ℕ) (n : Amounts) (x : ℕ) {p q r : ℕ} → n.a ≤ n.b → n.b ≤ n.c → n.c ≤ w → x < 2 ^ w
    → p ≡ turned w (n.c - n.b) x → q ≡ turned w (n.b - n.a) (bit_xor x p) → r ≡ turned w n.a (bit_xor x q) → r ≡ big w n x
unfolding big
big_code w n x {p} {q} h k l hx e f g =
    let p_is : p ≡ rotr w (n.c - n.b) x = e ∙ rotr_code w (n.c - n.b) (omega arith) hx in
    let hp : bit_xor x p < 2 ^ w = joined_lt w (n.c - n.b) (omega arith) hx hx p_is in
    let q_is : q ≡ rotr w (n.b - n.a) (bit_xor x p) = f ∙ rotr_code w (n.b - n.a) (omega arith) hp in
    g
    ∙ rotr_code w n.a (omega arith) (joined_lt w (n.b - n.a) (omega arith) hx hp q_is)
    ∙ ap (λ (z : ℕ). rotr w n.a (bit_xor x z)) q_is
    ∙ rotr_onto w n.a n.b h (omega arith) hx hp
    ∙ ap (λ (z : ℕ). bit_xor (rotr w n.a x) (rotr w n.b (bit_xor x z))) p_is
    ∙ ap (bit_xor (rotr w n.a x)) (rotr_onto w n.b n.c k l hx hx)
    ∙ xor_assoc (rotr w n.a x) (rotr w n.b x) (rotr w n.c x)

pub small_code : (w : ℕ) (n : Amounts) (x : ℕ) {p q : ℕ} → n.a ≤ n.b → n.b ≤ w → x < 2 ^ w
    → p ≡ turned w (n.b - n.a) x → q ≡ turned w n.a (bit_xor x p) → bit_xor q (x / 2 ^ n.c) ≡ small w n x
unfolding small shr
small_code w n x h k hx e f =
    let p_is = e ∙ rotr_code w (n.b - n.a) (omega arith) hx in
    let q_is = f ∙ rotr_code w n.a (omega arith) (joined_lt w (n.b - n.a) (omega arith) hx hx p_is) in
    ap (λ (z : ℕ). bit_xor z (x / 2 ^ n.c)) (q_is ∙ ap (λ (z : ℕ). rotr w n.a (bit_xor x z)) p_is ∙ rotr_onto w n.a n.b h k hx hx)

-- Ch, with one operation less
pub ch_code : (w : ℕ) (x y z : ℕ) → x < 2 ^ w → z < 2 ^ w → bit_xor (bit_and x (bit_xor y z)) z ≡ ch w x y z
ch_code w x y z hx hz =
    let m : ℕ = 2 ^ w - 1 in
    let masked : (v : ℕ) → v < 2 ^ w → bit_and m v ≡ v = λ v h. and_comm m v ∙ and_mask v w ∙ mod-eq_of_lt h in
    let l : x ≤ m = le_ones w hx in
    let turned : bit_xor m x ≡ complement w x = omega (arith, xor_add_and m x, masked x hx) in
    choice x y z
    ∙ ap (bit_xor (bit_and x y))
    (sym (ap (λ (v : ℕ). bit_and v z) (sym turned) ∙ and_of_xor m x z ∙ ap (λ (v : ℕ). bit_xor v (bit_and x z)) (masked z hz)))

-- the bits of two words fit w bits exactly where both words do
pub or_fits : (w x y : ℕ) → ltb (bit_or x y) (2 ^ w) ≡ (ltb x (2 ^ w) && ltb y (2 ^ w))
or_fits w x y =
    let s : bit_or x y + bit_and x y ≡ x + y = or_add_and x y in
    let l : bit_and x y ≤ x = and_le_l x y in
    let r : bit_and x y ≤ y = and_le_r x y in
    elim (dec_lt x (2 ^ w)) [
      | yes p ↦ elim (dec_lt y (2 ^ w)) [
        | yes q ↦ lt-ltb (bit_or x y) (2 ^ w) (or_lt w x y p q) ∙ (λ i. sym (lt-ltb x (2 ^ w) p) i && sym (lt-ltb y (2 ^ w) q) i)
        | no q ↦ le-ltb (bit_or x y) (2 ^ w) (omega arith) ∙ (λ i. sym (lt-ltb x (2 ^ w) p) i && sym (le-ltb y (2 ^ w) (omega arith)) i)
      ]
      | no p ↦ le-ltb (bit_or x y) (2 ^ w) (omega arith) ∙ ap (λ (b : Bool). b && ltb y (2 ^ w)) (sym (le-ltb x (2 ^ w) (omega arith)))
    ]
