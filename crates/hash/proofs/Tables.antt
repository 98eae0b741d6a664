-- The rule of the tables, at each entry, by one computed test for each table. Assumes nothing.
use Rattle.std.proofs.Common.{◌≡◌, ℕ, zero, suc, ◌+◌, ◌*◌, ◌%◌, ◌^◌, ◌<◌, Bool, true, false, ◌&&◌, ◌||◌, T, eqb, ltb, leb, List, [], ◌∷◌, length, get_or, refl, le_of_suc-le-suc, not-suc-le-zero, eqb→eq, ltb→lt, leb→le}
use lib.Ieee.Fits.{and_l, and_r}
use Rattle.hash.specs.Rule.{undivided, prime, primes, RootBits}
use Rattle.hash.specs.Table.{k64, first64}

-- c is the whole part of 2 ^ 64 times the e-th root of p, and x its lowest 64 bits
abbrev low : ℕ → ℕ → ℕ → Bool
low e p c = leb (c ^ e) (p * 2 ^ (64 * e))

abbrev high : ℕ → ℕ → ℕ → Bool
high e p c = ltb (p * 2 ^ (64 * e)) ((c + 1) ^ e)

abbrev root : ℕ → ℕ → ℕ → ℕ → Bool
root e p x c = low e p c && (high e p c && eqb x (c % 2 ^ 64))

root_bits : (e p x c : ℕ) → T (root e p x c) → RootBits e p x
root_bits e p x c t =
    let r : T (high e p c && eqb x (c % 2 ^ 64)) = and_r (low e p c) (high e p c && eqb x (c % 2 ^ 64)) t in
    record {
      c = c;
      low = leb→le _ _ (and_l (low e p c) (high e p c && eqb x (c % 2 ^ 64)) t);
      high = ltb→lt _ _ (and_l (high e p c) (eqb x (c % 2 ^ 64)) r);
      bits = eqb→eq x (c % 2 ^ 64) (and_r (high e p c) (eqb x (c % 2 ^ 64)) r);
    }

-- with one of the numbers below n before the point, x is what stands after it
tried : ℕ → ℕ → ℕ → ℕ → Bool
tried e p x zero = false
tried e p x (suc n) = root e p x (n * 2 ^ 64 + x) || tried e p x n

either : {A : Type 0} (a b : Bool) → (T a → A) → (T b → A) → T (a || b) → A
either true b f g t = f tt
either false b f g t = g t

tried_bits : (e p x n : ℕ) → T (tried e p x n) → RootBits e p x
unfolding tried
tried_bits e p x zero t = absurd t
tried_bits e p x (suc n) t =
    either (root e p x (n * 2 ^ 64 + x)) (tried e p x n) (root_bits e p x (n * 2 ^ 64 + x)) (tried_bits e p x n) t

-- each of the xs belongs to the prime at its place; every root is below 8
all : ℕ → List ℕ → List ℕ → Bool
all e ps [] = true
all e [] (x ∷ xs) = false
all e (p ∷ ps) (x ∷ xs) = tried e p x 8 && all e ps xs

at : (e : ℕ) (ps xs : List ℕ) → T (all e ps xs) → (k : ℕ) → k < length xs → RootBits e (get_or ps k 0) (get_or xs k 0)
unfolding all
at e ps [] t k h = absurd (not-suc-le-zero h)
at e [] (x ∷ xs) t k h = absurd t
at e (p ∷ ps) (x ∷ xs) t zero h = tried_bits e p x 8 (and_l (tried e p x 8) (all e ps xs) t)
at e (p ∷ ps) (x ∷ xs) t (suc k) h = at e ps xs (and_r (tried e p x 8) (all e ps xs) t) k (le_of_suc-le-suc h)

k64_test : T (all 3 (primes 410) k64)
unfolding all tried k64 primes prime undivided
k64_test = tt

first64_test : T (all 2 (primes 410) first64)
unfolding all tried first64 primes prime undivided
first64_test = tt

-- the primes below 410 are the first eighty
pub first_eighty : length (primes 410) ≡ 80
unfolding primes prime undivided
first_eighty = refl

-- the round constants are of the cube roots of the first eighty primes, the first words of the square roots of the first eight
pub k64_rule : (t : ℕ) → t < 80 → RootBits 3 (get_or (primes 410) t 0) (get_or k64 t 0)
unfolding k64
k64_rule t h = at 3 (primes 410) k64 k64_test t h

pub first64_rule : (t : ℕ) → t < 8 → RootBits 2 (get_or (primes 410) t 0) (get_or first64 t 0)
unfolding first64
first64_rule t h = at 2 (primes 410) first64 first64_test t h
