-- Proved: laws of the block form of a key and of the pads: their lengths, and which keys share a form. Assumes nothing.
use Rattle.std.specs.Prelude.{◌≡◌, refl, ◌↔◌, List, [], ◌∷◌, ◌++◌, ℕ, zero, suc, ◌+◌, ◌-◌, ◌*◌, ◌/◌, ◌%◌, ◌≤◌, ◌<◌, length, take, replicate}
use Rattle.std.proofs.Common.{sym, ap, ap₂, ◌∙◌, append_assoc, mod-lt, div-add-mod', arith, le-leb}
use Rattle.std.proofs.Math.Decide.{dec_le}
use Rattle.std.proofs.Math.Arith.{bin_ind, digits_div, digits_mod}
use Rattle.std.specs.Int.Bits.{differ, bit_xor, xor_step, xor_self}
use Rattle.std.proofs.lemmas.List.{length-map, replicate-append-replicate}
use Rattle.std.proofs.Math.Seq.{take-append-add}
use Rattle.std.proofs.lemmas.Bool.{lt-leb}
use Rattle.octets.specs.Parts.{take_replicate}
use Rattle.algorithm.specs.declared.hashes.Hash.{Hash}
use Rattle.algorithm.specs.Hashes.{block_of}
use Rattle.algorithm.specs.Hashes.Laws.{digest_fits_block}
use Rattle.hash.specs.Digest.{digest_of}
use Rattle.hash.specs.Digest.Laws.{digest_length}
use Rattle.octets.specs.Zeros.{zeros_to}
use Rattle.octets.specs.Zeros.Laws.{zeros_length}
use Rattle.hmac.specs.Form.{form_of, masked, inner_pad, outer_pad, SameButZeros}

-- a digit with another is a digit, and with it once more itself
differ_lt : (x y : ℕ) → x < 2 → y < 2 → differ x y < 2
differ_lt zero y h k = k
differ_lt (suc x) zero h k = h
differ_lt (suc x) (suc y) h k = differ_lt x y (omega arith) (omega arith)

differ_twice : (x y : ℕ) → x < 2 → y < 2 → differ (differ x y) y ≡ x
differ_twice zero zero h k = refl
differ_twice zero (suc zero) h k = refl
differ_twice zero (suc (suc y)) h k = absurd (omega arith)
differ_twice (suc zero) zero h k = refl
differ_twice (suc zero) (suc zero) h k = refl
differ_twice (suc zero) (suc (suc y)) h k = absurd (omega arith)
differ_twice (suc (suc x)) y h k = absurd (omega arith)

-- so a number XOR x, and XOR x once more, is itself
digit_more : (n x : ℕ) → bit_xor (bit_xor (n / 2) (x / 2)) (x / 2) ≡ n / 2 → bit_xor (bit_xor n x) x ≡ n
digit_more n x ih =
    let q : ℕ = bit_xor (n / 2) (x / 2) in
    let d : ℕ = differ (n % 2) (x % 2) in
    let hn : n % 2 < 2 = mod-lt n (omega arith) in
    let hx : x % 2 < 2 = mod-lt x (omega arith) in
    let hd : d < 2 = differ_lt (n % 2) (x % 2) hn hx in
    let upper : bit_xor n x / 2 ≡ q = ap (λ (k : ℕ). k / 2) (xor_step n x) ∙ digits_div q hd in
    let lower : bit_xor n x % 2 ≡ d = ap (λ (k : ℕ). k % 2) (xor_step n x) ∙ digits_mod q hd in
    xor_step (bit_xor n x) x
    ∙ ap₂ (λ (i j : ℕ). bit_xor i (x / 2) * 2 + differ j (x % 2)) upper lower
    ∙ ap₂ (λ (i j : ℕ). i * 2 + j) ih (differ_twice (n % 2) (x % 2) hn hx)
    ∙ div-add-mod' n 2

pub xor_twice : (a x : ℕ) → bit_xor (bit_xor a x) x ≡ a
xor_twice = bin_ind (λ (n : ℕ). (x : ℕ) → bit_xor (bit_xor n x) x ≡ n) xor_self (λ n ih x. digit_more n x (ih (x / 2)))

pub xor_injective : (x a b : ℕ) → bit_xor a x ≡ bit_xor b x → a ≡ b
xor_injective x a b e = sym (xor_twice a x) ∙ ap (λ (k : ℕ). bit_xor k x) e ∙ xor_twice b x

-- bytes XOR x are as many, and no other bytes give the same
pub masked_length : (x : ℕ) (l : List ℕ) → length (masked x l) ≡ length l
masked_length x l = length-map l (λ b. bit_xor b x)

pub masked_injective : (x : ℕ) (a b : List ℕ) → masked x a ≡ masked x b → a ≡ b
masked_injective x [] [] e = refl
masked_injective x [] (c ∷ b) e = let z : ◌≡◌ {A = ℕ} 0 1 = cc in absurd (omega arith)
masked_injective x (c ∷ a) [] e = let z : ◌≡◌ {A = ℕ} 0 1 = cc in absurd (omega arith)
masked_injective x (c ∷ a) (d ∷ b) e =
    let t : masked x a ≡ masked x b = cc in
    let u : bit_xor c x ≡ bit_xor d x = cc in
    ap₂ ◌∷◌ (xor_injective x c d u) (masked_injective x a b t)

-- zeros after bytes: how many there are, and that zeros more after them play no part
zeros_front : (n p : ℕ) (l : List ℕ) → length l ≤ n → take n ((l ++ replicate p 0) ++ replicate n 0) ≡ zeros_to n l
zeros_front n p l h =
    let e : n ≡ length l + (n - length l) = omega arith in
    ap (take n) (append_assoc l (replicate p 0) (replicate n 0) ∙ ap (λ (r : List ℕ). l ++ r) (replicate-append-replicate p n 0))
    ∙ ap (λ (k : ℕ). take k (l ++ replicate (p + n) 0)) e
    ∙ take-append-add l (replicate (p + n) 0) (n - length l)
    ∙ ap (λ (r : List ℕ). l ++ r) (take_replicate (n - length l) (p + n) 0 (omega arith))

module _ (h : Hash) where
  digest_fits : (k : List ℕ) → length (digest_of h k) ≤ block_of h
  digest_fits k = omega (arith, digest_length h k, digest_fits_block h)

  module _ (k : List ℕ) where
    -- the form of a key of at most a block, and of a longer one
    pub form_short : length k ≤ block_of h → form_of h k ≡ zeros_to (block_of h) k
    unfolding form_of
    form_short l = rw (le-leb (length k) (block_of h) l)

    pub form_long : block_of h < length k → form_of h k ≡ zeros_to (block_of h) (digest_of h k)
    unfolding form_of
    form_long l = rw (lt-leb (length k) (block_of h) l)

    -- a form and the pads have a block's bytes
    pub form_length : length (form_of h k) ≡ block_of h
    form_length = elim (dec_le (length k) (block_of h)) [
      | yes l ↦ ap length (form_short l) ∙ zeros_length (block_of h) k l
      | no l ↦
          let g : block_of h < length k = omega arith in
          ap length (form_long g) ∙ zeros_length (block_of h) (digest_of h k) (digest_fits k)
    ]

    pub inner_length : length (inner_pad h k) ≡ block_of h
    unfolding inner_pad
    inner_length = masked_length 0x36 (form_of h k) ∙ form_length

    pub outer_length : length (outer_pad h k) ≡ block_of h
    unfolding outer_pad
    outer_length = masked_length 0x5c (form_of h k) ∙ form_length

  -- a key longer than a block has the form of its digest
  pub form_of_digest : (k : List ℕ) → block_of h < length k → form_of h k ≡ form_of h (digest_of h k)
  form_of_digest k l = form_long k l ∙ sym (form_short (digest_of h k) (digest_fits k))

  -- keys of at most a block have the same form exactly where they differ only in zeros at the end
  module _ (a b : List ℕ) (la : length a ≤ block_of h) (lb : length b ≤ block_of h) where
    form_zeros : form_of h a ≡ form_of h b → SameButZeros a b
    form_zeros e = record {
      after_a = block_of h - length a;
      after_b = block_of h - length b;
      same = sym (form_short a la) ∙ e ∙ form_short b lb;
    }

    zeros_form : SameButZeros a b → form_of h a ≡ form_of h b
    zeros_form s =
        form_short a la
        ∙ sym (zeros_front (block_of h) s.after_a a la)
        ∙ ap (λ (r : List ℕ). take (block_of h) (r ++ replicate (block_of h) 0)) s.same
        ∙ zeros_front (block_of h) s.after_b b lb
        ∙ sym (form_short b lb)

    pub forms_same : form_of h a ≡ form_of h b ↔ SameButZeros a b
    forms_same = (form_zeros, zeros_form)
