-- Proved: laws of comparing. Assumes nothing.
use Rattle.std.specs.Prelude.{◌≡◌, refl, Bool, true, false, ◌&&◌, List, [], ◌∷◌, ℕ, eqb}
use Rattle.std.proofs.Common.{sym, ap, ◌∙◌, eqb-true, eq-eqb}
use Rattle.std.proofs.lemmas.Bool.{false≢true}
use Rattle.octets.specs.Every.Laws.{and_parts}
use Rattle.octets.specs.Same.{equal, Tells}

-- no second answer tells the same
pub tells_one : (r s : Bool) {a b : List ℕ} → Tells r a b → Tells s a b → r ≡ s
tells_one true s t u = sym (u.equal_true (t.true_equal refl))
tells_one false true t u = t.equal_true (u.true_equal refl)
tells_one false false t u = refl

-- the test of two lists tells whether they are equal
equal_true : (a b : List ℕ) → equal a b ≡ true → a ≡ b
unfolding equal
equal_true [] [] e = refl
equal_true [] (y ∷ b) e = absurd (false≢true e)
equal_true (x ∷ a) [] e = absurd (false≢true e)
equal_true (x ∷ a) (y ∷ b) e =
    let p = and_parts (eqb x y) (equal a b) e in
    cc (eqb-true x y p.0, equal_true a b p.1)

equal_self : (a : List ℕ) → equal a a ≡ true
unfolding equal
equal_self [] = refl
equal_self (x ∷ a) = (λ i. eq-eqb x x refl i && equal a a) ∙ equal_self a

pub equal_tells : (a b : List ℕ) → Tells (equal a b) a b
equal_tells a b = record { true_equal = equal_true a b; equal_true = λ e. ap (equal a) (sym e) ∙ equal_self a }

-- so an answer that tells it is the test's
pub tells_equal : {r : Bool} (a b : List ℕ) → Tells r a b → r ≡ equal a b
tells_equal {r} a b t = tells_one r (equal a b) t (equal_tells a b)

-- the test does not ask which list comes first
pub equal_sym : (a b : List ℕ) → equal a b ≡ equal b a
equal_sym a b =
    let t = equal_tells a b in
    tells_equal b a (record { true_equal = λ e. sym (t.true_equal e); equal_true = λ e. t.equal_true (sym e) })
