-- Proved: laws of numbers that were spelled as bytes: a number that fits comes back, and so does what follows it. Assumes nothing.
use Rattle.std.specs.Prelude.{◌≡◌, refl, true, List, [], ◌∷◌, ◌++◌, ℕ, zero, suc, ◌+◌, ◌*◌, ◌/◌, ◌%◌, ◌^◌, ◌<◌, ltb, drop}
use Rattle.std.proofs.Common.{sym, ap, ◌∙◌, pow-suc, mod-eq_of_lt, arith, take_at, drop_at, drop-drop, lt-ltb}
use Rattle.octets.specs.Every.{every, all_bytes}
use Rattle.octets.specs.Every.Laws.{every_append}
use Rattle.octets.specs.Number.{onto, number, number_at, bytes}
use Rattle.octets.specs.Number.Laws.{bytes_length, onto_append}

-- the number of the k lowest bytes of a number below 256 ^ k is that number
pub number_bytes_lem : (k n : ℕ) → n < 256 ^ k → number (bytes k n) ≡ n
unfolding bytes number onto
number_bytes_lem zero n h = omega arith
number_bytes_lem (suc k) n h =
    let e : 256 ^ suc k ≡ 256 ^ k * 256 = pow-suc 256 k in
    let upper : n / 256 < 256 ^ k = omega arith in
    onto_append 0 (bytes k (n / 256)) (n % 256 ∷ []) ∙ ap (λ (m : ℕ). m * 256 + n % 256) (number_bytes_lem k (n / 256) upper) ∙ omega arith

-- one byte of a number that is one
pub byte_bytes : (n : ℕ) → n < 256 → bytes 1 n ≡ n ∷ []
unfolding bytes
byte_bytes n h = ap (λ (b : ℕ). b ∷ []) (mod-eq_of_lt h)

-- whatever the number, its bytes are bytes
pub bytes_all : (k n : ℕ) → all_bytes (bytes k n) ≡ true
unfolding bytes every
bytes_all zero n = refl
bytes_all (suc k) n =
    let low : n % 256 < 256 = omega arith in
    every_append (λ x. ltb x 256) (bytes k (n / 256)) (n % 256 ∷ [])
    ∙ rw (bytes_all k (n / 256), lt-ltb (n % 256) 256 low)

-- a number that is spelled at a place, and what follows it
module _ (l : List ℕ) (at k n : ℕ) (r : List ℕ) (here : drop at l ≡ bytes k n ++ r) where
  pub spelled_number : n < 256 ^ k → number_at l at k ≡ n
  spelled_number h = rw (here, take_at (bytes k n) r k (bytes_length k n)) (number_bytes_lem k n h)

  pub spelled_after : drop (at + k) l ≡ r
  spelled_after = sym (drop-drop k at l) ∙ ap (drop k) here ∙ drop_at (bytes k n) r k (bytes_length k n)
