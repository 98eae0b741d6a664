-- Proved: laws of numbers as bytes. Assumes nothing.
use Rattle.std.specs.Prelude.{◌≡◌, refl, true, List, [], ◌∷◌, ◌++◌, ℕ, zero, suc, ◌+◌, ◌-◌, ◌*◌, ◌/◌, ◌%◌, ◌^◌, ◌≤◌, ◌<◌, length, get_or, take, drop, replicate, ltb}
use Rattle.std.proofs.Common.{sym, ap, ap₂, ◌∙◌, append_assoc, append-nil, zero-add, add-zero, add-suc, add_assoc, add-mul, mul-one, mul_comm, mul_assoc, pow-suc, div-one, add-one, arith, length-append, length-drop, take-append-drop, take-suc, take-add, take_all, drop_at, drop-drop, get_or-drop, length-take-le, ltb-true}
use Rattle.std.proofs.Math.Nat.{pow-zero, div-div-eq-div-mul}
use Rattle.std.proofs.lemmas.List.{replicate-append-replicate}
use Rattle.std.proofs.Math.Seq.{slice}
use Rattle.std.proofs.Math.Arith.{digits_div, digits_mod}
use Rattle.octets.specs.Every.{every, all_bytes}
use Rattle.octets.specs.Every.Laws.{and_parts, every_append, every_take, every_drop}
use Rattle.octets.specs.Parts.{part_front}
use Rattle.octets.specs.Number.{onto, number, number_at, bytes}

-- k bytes are k
pub bytes_length : (k n : ℕ) → length (bytes k n) ≡ k
unfolding bytes
bytes_length zero n = refl
bytes_length (suc k) n =
    length-append (bytes k (n / 256)) (n % 256 ∷ []) ∙ ap (λ (x : ℕ). x + 1) (bytes_length k (n / 256)) ∙ add-one k

-- the upper bytes, then the lower ones
pub bytes_add : (k j n : ℕ) → bytes (k + j) n ≡ bytes k (n / 256 ^ j) ++ bytes j n
unfolding bytes
bytes_add k zero n = rw (add-zero, pow-zero, div-one, append-nil)
bytes_add k (suc j) n =
    ap (λ (i : ℕ). bytes i n) (add-suc k j)
    ∙ ap (λ (l : List ℕ). l ++ (n % 256 ∷ [])) (bytes_add k j (n / 256))
    ∙ append_assoc (bytes k (n / 256 / 256 ^ j)) (bytes j (n / 256)) (n % 256 ∷ [])
    ∙ ap (λ (i : ℕ). bytes k i ++ bytes (suc j) n)
    (div-div-eq-div-mul n 256 (256 ^ j) ∙ ap (λ (i : ℕ). n / i) (mul_comm 256 (256 ^ j) ∙ sym (pow-suc 256 j)))

-- the last j of k bytes
pub bytes_last : (k j n : ℕ) → j ≤ k → drop (k - j) (bytes k n) ≡ bytes j n
bytes_last k j n h =
    let e : k ≡ (k - j) + j = omega arith in
    ap (λ (i : ℕ). drop (k - j) (bytes i n)) e
    ∙ ap (drop (k - j)) (bytes_add (k - j) j n)
    ∙ drop_at (bytes (k - j) (n / 256 ^ j)) (bytes j n) (k - j) (bytes_length (k - j) (n / 256 ^ j))

-- the bytes of 0
pub bytes_zero : (k : ℕ) → bytes k 0 ≡ replicate k 0
unfolding bytes
bytes_zero zero = refl
bytes_zero (suc k) =
    ap (λ (l : List ℕ). l ++ (0 ∷ [])) (bytes_zero k)
    ∙ replicate-append-replicate k 1 0
    ∙ ap (λ (n : ℕ). replicate n 0) (add-one k)

-- the number of two lists, one after the other
pub onto_append : (n : ℕ) (xs ys : List ℕ) → onto n (xs ++ ys) ≡ onto (onto n xs) ys
unfolding onto
onto_append n [] ys = refl
onto_append n (x ∷ xs) ys = onto_append (n * 256 + x) xs ys

onto_sum : (n : ℕ) (ys : List ℕ) → onto n ys ≡ n * 256 ^ length ys + onto 0 ys
unfolding onto
onto_sum n [] = sym (add-zero (n * 1) ∙ mul-one n)
onto_sum n (y ∷ ys) =
    onto_sum (n * 256 + y) ys
    ∙ ap (λ (x : ℕ). x + onto 0 ys) (add-mul (n * 256) y (256 ^ length ys))
    ∙ add_assoc (n * 256 * 256 ^ length ys) (y * 256 ^ length ys) (onto 0 ys)
    ∙ ap₂ (λ (x y : ℕ). x + y)
    (mul_assoc n 256 (256 ^ length ys) ∙ ap (λ (x : ℕ). n * x) (mul_comm 256 (256 ^ length ys) ∙ sym (pow-suc 256 (length ys))))
    (sym (ap (λ (x : ℕ). onto x ys) (zero-add y) ∙ onto_sum y ys))

-- a number of k + j bytes, from two parts
pub number_parts : (b : List ℕ) (at k j : ℕ) → at + (k + j) ≤ length b
    → number (take k (drop at b)) * 256 ^ j + number (take j (drop (at + k) b)) ≡ number (take (k + j) (drop at b))
unfolding number
number_parts b at k j h =
    let n : ℕ = onto 0 (take k (drop at b)) in
    let ys : List ℕ = take j (drop (at + k) b) in
    let e : length ys ≡ j = length-take-le j (drop (at + k) b) (simp length-drop (omega arith)) in
    ap (λ (m : ℕ). n * 256 ^ m + onto 0 ys) (sym e)
    ∙ sym (onto_sum n ys)
    ∙ sym (onto_append 0 (take k (drop at b)) ys)
    ∙ ap (λ (l : List ℕ). onto 0 (take k (drop at b) ++ take j l)) (sym (drop-drop k at b))
    ∙ ap (onto 0) (sym (take-add k j (drop at b)))

-- no byte, and one byte more
pub number_none : (s : List ℕ) (at : ℕ) → number_at s at 0 ≡ 0
unfolding number onto
number_none s at = refl

pub number_more : (s : List ℕ) (at i : ℕ) → at + i < length s → number_at s at (i + 1) ≡ number_at s at i * 256 + get_or s (at + i) 0
unfolding number onto
number_more s at i h =
    let k : i < length (drop at s) = rw (length-drop) (omega arith) in
    rw (add-one i, take-suc (drop at s) i 0 k, get_or-drop) (onto_append 0 (take i (drop at s)) (get_or s (at + i) 0 ∷ []))

-- a number of i bytes, and a byte more, is one of i + 1
pub below_more : (i n b : ℕ) → n < 256 ^ i → b < 256 → n * 256 + b < 256 ^ (i + 1)
below_more i n b h k =
    let e : 256 ^ (i + 1) ≡ 256 ^ i * 256 = ap (λ (j : ℕ). 256 ^ j) (add-one i) ∙ pow-suc 256 i in
    omega (arith, e)

-- the bytes of the number that bytes make are those bytes
pub bytes_number : (k : ℕ) (l : List ℕ) → length l ≡ k → all_bytes l ≡ true → bytes k (number l) ≡ l
unfolding bytes number onto every
bytes_number zero [] e a = refl
bytes_number zero (x ∷ l) e a = absurd (omega arith)
bytes_number (suc k) l e a =
    let front : List ℕ = take k l in
    let b : ℕ = get_or l k 0 in
    let split : l ≡ front ++ (b ∷ []) = sym (take_all (suc k) l (omega arith)) ∙ take-suc l k 0 (omega arith) in
    let parts = and_parts (all_bytes front) (all_bytes (b ∷ [])) (sym (every_append (λ x. ltb x 256) front (b ∷ [])) ∙ ap all_bytes (sym split) ∙ a) in
    let small : b < 256 = ltb-true b 256 (and_parts (ltb b 256) true parts.1).0 in
    let n : number l ≡ number front * 256 + b = ap number split ∙ onto_append 0 front (b ∷ []) in
    let upper : number l / 256 ≡ number front = ap (λ (m : ℕ). m / 256) n ∙ digits_div (number front) small in
    let lower : number l % 256 ≡ b = ap (λ (m : ℕ). m % 256) n ∙ digits_mod (number front) small in
    ap₂ (λ (m c : ℕ). bytes k m ++ (c ∷ [])) upper lower
    ∙ ap (λ (r : List ℕ). r ++ (b ∷ [])) (bytes_number k front (length-take-le k l (omega arith)) parts.0)
    ∙ sym split

-- a number that ends before `top` is the same in the bytes up to there, and in those between two places
pub number_front : (top at n : ℕ) (l : List ℕ) → at + n ≤ top → number_at (take top l) at n ≡ number_at l at n
number_front top at n l h = ap number (part_front top at n l h)

pub number_slice : (from top i n : ℕ) (l : List ℕ) → from + i + n ≤ top → number_at (slice from top l) i n ≡ number_at l (from + i) n
number_slice from top i n l h =
    ap (λ (r : List ℕ). number (take n r)) (drop-drop i from (take top l)) ∙ number_front top (from + i) n l h

-- a number's bytes stand where the number does: before what follows, to the end or up to `top`
pub number_back : (l : List ℕ) (at n end : ℕ) → all_bytes l ≡ true → at + n ≡ end → end ≤ length l
    → bytes n (number_at l at n) ++ drop end l ≡ drop at l
number_back l at n end b e h =
    let r : List ℕ = drop at l in
    let fits : n ≤ length r = omega (arith, length-drop at l) in
    ap₂ (λ (x y : List ℕ). x ++ y)
    (bytes_number n (take n r) (length-take-le n r fits) (every_take _ n r (every_drop _ at l b)))
    (ap (λ (k : ℕ). drop k l) (sym e) ∙ sym (drop-drop n at l))
    ∙ take-append-drop n r

pub number_between : (l : List ℕ) (top at n end : ℕ) → all_bytes l ≡ true → at + n ≡ end → end ≤ top → top ≤ length l
    → bytes n (number_at l at n) ++ slice end top l ≡ slice at top l
number_between l top at n end b e h t =
    ap (λ (k : ℕ). bytes n k ++ slice end top l) (sym (number_front top at n l (omega arith)))
    ∙ number_back (take top l) at n end (every_take _ top l b) e (omega (arith, length-take-le top l t))
