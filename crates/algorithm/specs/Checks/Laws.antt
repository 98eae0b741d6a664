-- Proved: laws of checks in their order: a number comes back exactly when its check fails and every earlier one passes; a call is done
-- exactly when all pass; and no second outcome meets an equation that a first one meets. Assumes nothing.
use Rattle.std.specs.Prelude.{◌≡◌, refl, ◌↔◌, ◌⊎◌, Bool, List, [], ◌∷◌, ◌++◌, ℕ, suc, eqb}
use Rattle.std.proofs.Common.{sym, subst, ◌∙◌, inl, inr, ⊎_elim, arith, eq-eqb, ne_eqb, eqb-true}
use Rattle.std.proofs.lemmas.Bool.{eqb-false}
use Rattle.algorithm.specs.Cases.Laws.{test}
use Rattle.algorithm.specs.Cases.Test.{yes, no}
use Rattle.algorithm.specs.Refusals.{done}
use Rattle.algorithm.specs.Checks.{Check, check, first_failing, decided, written, answered, Pass, Fail, Refusing}
use Rattle.algorithm.specs.Checks.Pass.{all, and}
use Rattle.algorithm.specs.Checks.Fail.{here, later}
use Rattle.algorithm.specs.Checks.Refusing.{none, more}

pub fails_number : {cs : List Check} {n : ℕ} → Fail cs n → first_failing cs ≡ n
fails_number (here e) = rw e
fails_number (later e f) = rw e (fails_number f)

pub number_fails : (cs : List Check) (n : ℕ) → (n ≡ done → ⊥) → first_failing cs ≡ n → Fail cs n
number_fails [] n z e = absurd (z (sym e))
number_fails (c ∷ cs) n z e = elim (test c.passes) [
  | yes t ↦ later t (number_fails cs n z (rw t at e))
  | no t ↦ subst (Fail (c ∷ cs)) (rw t at e) (here t)
]

-- the number comes back exactly when its check fails and every earlier one passes
pub exactly : (cs : List Check) (n : ℕ) → (n ≡ done → ⊥) → first_failing cs ≡ n ↔ Fail cs n
exactly cs n z = (number_fails cs n z, fails_number)

pub passes_done : {cs : List Check} → Pass cs → first_failing cs ≡ done
passes_done all = refl
passes_done (and e p) = rw e (passes_done p)

pub done_passes : (cs : List Check) → Refusing cs → first_failing cs ≡ done → Pass cs
done_passes [] r e = all
done_passes (c ∷ cs) (more z r) e = elim (test c.passes) [
  | yes t ↦ and t (done_passes cs r (rw t at e))
  | no t ↦ absurd (z t (rw t at e))
]

-- a call is done exactly when every check passes
pub exactly_done : (cs : List Check) → Refusing cs → first_failing cs ≡ done ↔ Pass cs
exactly_done cs r = (done_passes cs r, passes_done)

-- a check that refuses, before others that do
pub refuses : (b : Bool) (n : ℕ) {cs : List Check} → Refusing cs → Refusing (check b (suc n) ∷ cs)
refuses b n r = more {c = check b (suc n)} (λ f e. omega arith) r

-- checks after others: where one of the first fails the rest play no part, and where all of them pass the rest decide
pub append_refuses : (a b : List Check) → (first_failing a ≡ done → ⊥) → first_failing (a ++ b) ≡ first_failing a
append_refuses [] b z = absurd (z refl)
append_refuses (c ∷ a) b z = elim (test c.passes) [
  | yes t ↦ rw t (append_refuses a b (λ e. z (rw t e)))
  | no t ↦ rw t
]

pub append_passes : (a b : List Check) → first_failing a ≡ done → Refusing a → first_failing (a ++ b) ≡ first_failing b
append_passes [] b e r = refl
append_passes (c ∷ a) b e (more z r) = elim (test c.passes) [
  | yes t ↦ rw t (append_passes a b (rw t at e) r)
  | no t ↦ absurd (z t (rw t at e))
]

-- so a number other than `done` comes back exactly when it does from the first, or all of those pass and it does from the rest
pub append_number : (a b : List Check) (n : ℕ) → (n ≡ done → ⊥) → Refusing a
    → first_failing (a ++ b) ≡ n ↔ (first_failing a ≡ n) ⊎ (Pass a × (first_failing b ≡ n))
append_number a b n z r = elim (test (eqb (first_failing a) done)) [
  | yes t ↦
      let d = eqb-true (first_failing a) done t in
      let rest = append_passes a b d r in (
        λ e. inr (done_passes a r d, sym rest ∙ e),
        ⊎_elim (λ e. absurd (z (sym e ∙ d))) (λ p. rest ∙ p.1),
      )
  | no t ↦
      let f = eqb-false (first_failing a) done t in
      let first = append_refuses a b f in (
        λ e. inl (sym first ∙ e),
        ⊎_elim (λ e. first ∙ e) (λ p. absurd (f (passes_done p.0))),
      )
]

-- a number that is not that of the first check, and does not come back from the rest, does not come back
pub other_number : (c : Check) (cs : List Check) (n : ℕ) → (c.number ≡ n → ⊥) → (first_failing cs ≡ n → ⊥) → first_failing (c ∷ cs) ≡ n → ⊥
other_number c cs n first rest e = elim (test c.passes) [
  | yes t ↦ rest (rw t at e)
  | no t ↦ first (rw t at e)
]

-- all of them pass exactly when the first do and the rest do
pub pass_append : (a b : List Check) → Pass (a ++ b) ↔ (Pass a × Pass b)
pass_append a b = (split a, λ p. join p.0 p.1)
  where
    split : (a : List Check) → Pass (a ++ b) → Pass a × Pass b
    split [] p = (all, p)
    split (c ∷ a) (and e p) = let q = split a p in (and e q.0, q.1)

    join : {a : List Check} → Pass a → Pass b → Pass (a ++ b)
    join all q = q
    join (and e p) q = and e (join p q)

pub refusing_append : (a b : List Check) → Refusing a → Refusing b → Refusing (a ++ b)
refusing_append [] b none r = r
refusing_append (c ∷ a) b (more z q) r = more z (refusing_append a b q r)

-- where every check passes the work stands, and where one fails what was given
module _ {ℓ} {A : Type ℓ} {cs : List Check} (work given : A) where
  pub decided_work : Pass cs → decided cs work given ≡ work
  decided_work p = rw (eq-eqb (first_failing cs) done (passes_done p))

  pub decided_given : {n : ℕ} → (n ≡ done → ⊥) → Fail cs n → decided cs work given ≡ given
  decided_given z f = rw (ne_eqb (first_failing cs) done (λ e. z (sym (fails_number f) ∙ e)))

-- so a call that is done leaves the work, and a refused one what was given
pub done_work {ℓ} : {A : Type ℓ} (cs : List Check) (work given : A) → first_failing cs ≡ done → decided cs work given ≡ work
done_work cs work given e = rw e

pub refused_given {ℓ} : {A : Type ℓ} (cs : List Check) (work given : A) → (first_failing cs ≡ done → ⊥) → decided cs work given ≡ given
refused_given cs work given z = rw (ne_eqb (first_failing cs) done z)

module _ (cs : List Check) (work given : List ℕ) where
  pub answered_refused : (n : ℕ) → first_failing cs ≡ n → (n ≡ done → ⊥) → answered cs work given ≡ written n given
  answered_refused n e z = λ i. (e i, refused_given cs work given (λ d. z (sym e ∙ d)) i)

  pub answered_done : first_failing cs ≡ done → answered cs work given ≡ written done work
  answered_done e = λ i. (e i, done_work cs work given e i)

-- no second outcome: what meets the equation of a call is one
pub one_outcome {ℓ} : {A : Type ℓ} {a b outcome : A} → a ≡ outcome → b ≡ outcome → a ≡ b
one_outcome e f = e ∙ sym f
