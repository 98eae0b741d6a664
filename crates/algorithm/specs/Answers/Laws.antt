-- Proved: laws of the numbers that come back: each refusal has one of its own, and none is that of a call that is done. Assumes
-- nothing.
use Rattle.std.specs.Prelude.{◌≡◌, refl, Bool, true, false, cond, ℕ, eqb, Result, Ok, Err}
use Rattle.std.specs.Result.{is_ok, IsErrAnd}
use Rattle.std.proofs.Common.{sym, ap, ◌∙◌, arith}
use Rattle.std.proofs.lemmas.Result.{err_from_is_err_and}
use Rattle.algorithm.specs.Refusals.{done}
use Rattle.algorithm.specs.Answers.{number_of, number, valued}
use Rattle.algorithm.specs.declared.refusals.Refusal.{Refusal}
use Rattle.algorithm.specs.declared.refusals.Refusal.TheVariants.{TagDiffers, UnknownHash, KeyTooLong, MessageTooLong, TagLengthOutOfRange, WrongSize, PrkTooShort, InfoTooLong, OutputTooLong, StateNotSound, WrongReportLength, UnknownVersion, TooManySites, LabelLengthOutOfRange, SitesMisplaced, SumTooLarge, NoSuchSite, BufferTooShort, LedgerFull, TotalTooLarge, KeyTooShort}

-- no refusal has the number of a call that is done
pub refusal_tested : (e : Refusal) → eqb (number_of e) done ≡ false
refusal_tested TagDiffers = refl
refusal_tested UnknownHash = refl
refusal_tested KeyTooLong = refl
refusal_tested MessageTooLong = refl
refusal_tested TagLengthOutOfRange = refl
refusal_tested WrongSize = refl
refusal_tested PrkTooShort = refl
refusal_tested InfoTooLong = refl
refusal_tested OutputTooLong = refl
refusal_tested StateNotSound = refl
refusal_tested WrongReportLength = refl
refusal_tested UnknownVersion = refl
refusal_tested TooManySites = refl
refusal_tested LabelLengthOutOfRange = refl
refusal_tested SitesMisplaced = refl
refusal_tested SumTooLarge = refl
refusal_tested NoSuchSite = refl
refusal_tested BufferTooShort = refl
refusal_tested LedgerFull = refl
refusal_tested TotalTooLarge = refl
refusal_tested KeyTooShort = refl

-- so each refusal has a number above it
pub refusal_not_done : (e : Refusal) → number_of e ≡ done → ⊥
refusal_not_done TagDiffers h = absurd (omega (arith, h))
refusal_not_done UnknownHash h = absurd (omega (arith, h))
refusal_not_done KeyTooLong h = absurd (omega (arith, h))
refusal_not_done MessageTooLong h = absurd (omega (arith, h))
refusal_not_done TagLengthOutOfRange h = absurd (omega (arith, h))
refusal_not_done WrongSize h = absurd (omega (arith, h))
refusal_not_done PrkTooShort h = absurd (omega (arith, h))
refusal_not_done InfoTooLong h = absurd (omega (arith, h))
refusal_not_done OutputTooLong h = absurd (omega (arith, h))
refusal_not_done StateNotSound h = absurd (omega (arith, h))
refusal_not_done WrongReportLength h = absurd (omega (arith, h))
refusal_not_done UnknownVersion h = absurd (omega (arith, h))
refusal_not_done TooManySites h = absurd (omega (arith, h))
refusal_not_done LabelLengthOutOfRange h = absurd (omega (arith, h))
refusal_not_done SitesMisplaced h = absurd (omega (arith, h))
refusal_not_done SumTooLarge h = absurd (omega (arith, h))
refusal_not_done NoSuchSite h = absurd (omega (arith, h))
refusal_not_done BufferTooShort h = absurd (omega (arith, h))
refusal_not_done LedgerFull h = absurd (omega (arith, h))
refusal_not_done TotalTooLarge h = absurd (omega (arith, h))
refusal_not_done KeyTooShort h = absurd (omega (arith, h))

-- the refusal of a number
refusal_of : ℕ → Refusal
refusal_of n =
    cond (eqb n 1) TagDiffers (
    cond (eqb n 2) UnknownHash (
    cond (eqb n 3) KeyTooLong (
    cond (eqb n 4) MessageTooLong (
    cond (eqb n 5) TagLengthOutOfRange (
    cond (eqb n 6) WrongSize (
    cond (eqb n 7) PrkTooShort (
    cond (eqb n 8) InfoTooLong (
    cond (eqb n 9) OutputTooLong (
    cond (eqb n 10) StateNotSound (
    cond (eqb n 11) WrongReportLength (
    cond (eqb n 12) UnknownVersion (
    cond (eqb n 13) TooManySites (
    cond (eqb n 14) LabelLengthOutOfRange (
    cond (eqb n 15) SitesMisplaced (
    cond (eqb n 16) SumTooLarge (
    cond (eqb n 17) NoSuchSite (
    cond (eqb n 18) BufferTooShort (
    cond (eqb n 19) LedgerFull (
    cond (eqb n 20) TotalTooLarge KeyTooShort)))))))))))))))))))

refusal_back : (e : Refusal) → refusal_of (number_of e) ≡ e
unfolding refusal_of
refusal_back TagDiffers = refl
refusal_back UnknownHash = refl
refusal_back KeyTooLong = refl
refusal_back MessageTooLong = refl
refusal_back TagLengthOutOfRange = refl
refusal_back WrongSize = refl
refusal_back PrkTooShort = refl
refusal_back InfoTooLong = refl
refusal_back OutputTooLong = refl
refusal_back StateNotSound = refl
refusal_back WrongReportLength = refl
refusal_back UnknownVersion = refl
refusal_back TooManySites = refl
refusal_back LabelLengthOutOfRange = refl
refusal_back SitesMisplaced = refl
refusal_back SumTooLarge = refl
refusal_back NoSuchSite = refl
refusal_back BufferTooShort = refl
refusal_back LedgerFull = refl
refusal_back TotalTooLarge = refl
refusal_back KeyTooShort = refl

-- two refusals with one number are one
pub refusal_unique : (e f : Refusal) → number_of e ≡ number_of f → e ≡ f
refusal_unique e f h = sym (refusal_back e) ∙ ap refusal_of h ∙ refusal_back f

-- so the number of an answer without a value says which answer it is
pub number_unique : (r s : Result Unit Refusal) → number r ≡ number s → r ≡ s
number_unique (Ok x) (Ok y) h = refl
number_unique (Ok x) (Err f) h = absurd (refusal_not_done f (sym h))
number_unique (Err e) (Ok y) h = absurd (refusal_not_done e h)
number_unique (Err e) (Err f) h = ap Err (refusal_unique e f h)

-- and that of an answer with a value says it with the value
pub valued_unique : {A : Type 0} (given : A) (r s : Result A Refusal) → valued given r ≡ valued given s → r ≡ s
valued_unique given (Ok x) (Ok y) h = ap (λ (p : ℕ × _). Ok p.1) h
valued_unique given (Ok x) (Err f) h = absurd (refusal_not_done f (sym (ap (λ (p : ℕ × _). p.0) h)))
valued_unique given (Err e) (Ok y) h = absurd (refusal_not_done e (ap (λ (p : ℕ × _). p.0) h))
valued_unique given (Err e) (Err f) h = ap Err (refusal_unique e f (ap (λ (p : ℕ × _). p.0) h))

-- an answer with the number of a call that is done is one
pub done_ok : {A : Type 0} (r : Result A Refusal) → number r ≡ done → is_ok r ≡ true
done_ok (Ok x) e = refl
done_ok (Err f) e = absurd (refusal_not_done f e)

pub valued_ok : {A : Type 0} (given : A) (r : Result A Refusal) → (valued given r).0 ≡ done → is_ok r ≡ true
valued_ok given (Ok x) e = refl
valued_ok given (Err f) e = absurd (refusal_not_done f e)

-- the exit of a `?` hands on the refusal that it was given
pub passed_on : {A : Type 0} {r : Result A Refusal} {f : Refusal} → IsErrAnd r (λ x. x ≡ f) → r ≡ Err f
passed_on {r = r} e = let p = err_from_is_err_and r e in p.1 ∙ ap Err p.2
