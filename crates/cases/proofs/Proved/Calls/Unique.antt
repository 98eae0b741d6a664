-- Proved: no second outcome: where it is known what a reader has left, what meets the outcome predicate of a function, as its contract
-- cites it, is one value with one rest. Assumes nothing.
use Rattle.std.specs.Prelude.{◌≡◌, refl, List, [], ◌∷◌, ◌++◌, ℕ, suc, ◌<◌, ◌^◌, length, take, drop, flat_map, Option, Some, None, All}
use Rattle.std.proofs.Common.{sym, ap, ap₂, ◌∙◌, append_assoc, take_at, drop_at, arith}
use Rattle.std.specs.Io.KnownBytes.{Consumes}
use Rattle.octets.specs.Number.{bytes, number}
use Rattle.octets.specs.Number.Laws.{bytes_length}
use Rattle.octets.specs.Number.Spelled.{number_bytes_lem}
use Rattle.cases.specs.Calls.{NumberOutcome, SizeOutcome, ListOutcome, StringOutcome}

-- two ways to cut one list after so many elements
cut_same : (a a' r r' : List ℕ) → length a ≡ length a' → a ++ r ≡ a' ++ r' → (a ≡ a') × (r ≡ r')
cut_same a a' r r' e f = (
  sym (take_at a r (length a) refl) ∙ ap (take (length a)) f ∙ take_at a' r' (length a) (sym e),
  sym (drop_at a r (length a) refl) ∙ ap (drop (length a)) f ∙ drop_at a' r' (length a) (sym e),
)

-- one number, and the rest
number_apart : (k n n' : ℕ) (r r' : List ℕ) → n < 256 ^ k → n' < 256 ^ k → bytes k n ++ r ≡ bytes k n' ++ r' → (n ≡ n') × (r ≡ r')
number_apart k n n' r r' h h' e =
    let c = cut_same (bytes k n) (bytes k n') r r' (bytes_length k n ∙ sym (bytes_length k n')) e in
    (sym (number_bytes_lem k n h) ∙ ap number c.0 ∙ number_bytes_lem k n' h', c.1)

-- as many numbers, and the rest
numbers_apart : (k : ℕ) (l l' r r' : List ℕ) → All (λ n. n < 256 ^ k) l → All (λ n. n < 256 ^ k) l' → length l ≡ length l'
    → flat_map (bytes k) l ++ r ≡ flat_map (bytes k) l' ++ r' → (l ≡ l') × (r ≡ r')
numbers_apart k [] [] r r' h h' e f = (refl, f)
numbers_apart k [] (x ∷ l') r r' h h' e f = absurd (omega arith)
numbers_apart k (x ∷ l) [] r r' h h' e f = absurd (omega arith)
numbers_apart k (x ∷ l) (x' ∷ l') r r' h h' e f =
    let first =
    number_apart k x x' (flat_map (bytes k) l ++ r) (flat_map (bytes k) l' ++ r') (h 0 0 (omega arith)) (h' 0 0 (omega arith))
    (sym (append_assoc (bytes k x) (flat_map (bytes k) l) r) ∙ f ∙ append_assoc (bytes k x') (flat_map (bytes k) l') r')
    in
    let rest = numbers_apart k l l' r r' (λ i d j. h (suc i) d (omega arith)) (λ i d j. h' (suc i) d (omega arith)) (omega arith) first.1 in
    (ap₂ (λ (y : ℕ) (m : List ℕ). y ∷ m) first.0 rest.0, rest.1)

-- what is left after two ways to take from known bytes
rests : (xs bs bs' : List ℕ) (after after' : Option (List ℕ)) → Consumes (Some xs) after bs → Consumes (Some xs) after' bs'
    → (r : List ℕ) × (r' : List ℕ) × (after ≡ Some r) × (after' ≡ Some r') × (bs ++ r ≡ bs' ++ r')
rests xs bs bs' None after' c c' = absurd c
rests xs bs bs' (Some r) None c c' = absurd c'
rests xs bs bs' (Some r) (Some r') c c' = (r, r', refl, refl, sym c ∙ c')

pub number_unique : (k n n' : ℕ) (xs : List ℕ) (after after' : Option (List ℕ)) → n < 256 ^ k → n' < 256 ^ k
    → NumberOutcome k (Some xs) after n → NumberOutcome k (Some xs) after' n' → (n ≡ n') × (after ≡ after')
number_unique k n n' xs after after' h h' o o' =
    let t = rests xs (bytes k n) (bytes k n') after after' o o' in
    let a = number_apart k n n' t.0 t.1 h h' t.4 in
    (a.0, t.2 ∙ ap Some a.1 ∙ sym t.3)

pub size_unique : (most n n' : ℕ) (xs : List ℕ) (after after' : Option (List ℕ)) → SizeOutcome most (Some xs) after n
    → SizeOutcome most (Some xs) after' n' → (n ≡ n') × (after ≡ after')
size_unique most n n' xs after after' o o' = number_unique 4 n n' xs after after' o.1 o'.1 o.2 o'.2

pub string_unique : (room : ℕ) (s s' xs : List ℕ) (after after' : Option (List ℕ)) → StringOutcome room (Some xs) after s
    → StringOutcome room (Some xs) after' s' → (s ≡ s') × (after ≡ after')
string_unique room s s' xs after after' o o' =
    let t = rests xs (bytes 4 (length s) ++ s) (bytes 4 (length s') ++ s') after after' o.2 o'.2 in
    let n =
    number_apart 4 (length s) (length s') (s ++ t.0) (s' ++ t.1) o.1 o'.1
    (sym (append_assoc (bytes 4 (length s)) s t.0) ∙ t.4 ∙ append_assoc (bytes 4 (length s')) s' t.1)
    in
    let a = cut_same s s' t.0 t.1 n.0 n.1 in
    (a.0, t.2 ∙ ap Some a.1 ∙ sym t.3)

pub list_unique : (k room : ℕ) (l l' xs : List ℕ) (after after' : Option (List ℕ)) → All (λ n. n < 256 ^ k) l → All (λ n. n < 256 ^ k) l'
    → ListOutcome (bytes k) room (Some xs) after l → ListOutcome (bytes k) room (Some xs) after' l' → (l ≡ l') × (after ≡ after')
list_unique k room l l' xs after after' h h' o o' =
    let f = flat_map (bytes k) in
    let t = rests xs (bytes 4 (length l) ++ f l) (bytes 4 (length l') ++ f l') after after' o.2 o'.2 in
    let n =
    number_apart 4 (length l) (length l') (f l ++ t.0) (f l' ++ t.1) o.1 o'.1
    (sym (append_assoc (bytes 4 (length l)) (f l) t.0) ∙ t.4 ∙ append_assoc (bytes 4 (length l')) (f l') t.1)
    in
    let a = numbers_apart k l l' t.0 t.1 h h' n.0 n.1 in
    (a.0, t.2 ∙ ap Some a.1 ∙ sym t.3)
