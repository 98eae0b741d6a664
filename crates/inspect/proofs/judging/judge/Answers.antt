-- The keys are derived into the first bytes of the space, as many as both keys of the hash have. By their answer the PRK is refused, or
-- the report is judged; a number that names no hash is refused before, as deriving does.
use Rattle.std.proofs.Common.{◌≡◌, refl, sym, ap, subst, ◌∙◌, true, ℕ, List, ◌*◌, take, replicate, eqb, eqb-true}
use Rattle.algorithm.specs.Cases.Laws.{test}
use Rattle.algorithm.specs.Cases.Test.{yes, no}
use Rattle.algorithm.specs.Hashes.{names, hash_of, size_of}
use Rattle.algorithm.specs.Refusals.{done}
use Rattle.algorithm.specs.Answers.{number_of}
use Rattle.algorithm.specs.Answers.Laws.{refusal_tested, passed_on}
use Rattle.algorithm.specs.Calls.Laws.{which_unknown, which_is}
use Rattle.algorithm.specs.declared.refusals.Refusal.{Refusal}
use Rattle.report.specs.Calls.{keys_answer}
use Rattle.report.specs.Calls.Laws.{keys_unknown}
use Rattle.inspect.specs.Judging.{verdict_under, verdict_of, key_space}
use Rattle.inspect.proofs.judging.judge.Goals as goal

-- the bytes for both keys of a hash that a number names
both_fit : (n : ℕ) → names n ≡ true → take (2 * size_of (hash_of n)) (replicate 128 0) ≡ key_space n
both_fit n e = elim (test (eqb n 1)) [
  | yes one ↦ subst fit (sym (eqb-true n 1 one)) refl
  | no other ↦ subst fit (sym (eqb-true n 2 (rw other at e))) refl
]
  where
    fit : ℕ → Type 0
    fit m = take (2 * size_of (hash_of m)) (replicate 128 0) ≡ key_space m

-- a refusal stands, and keys that were derived are judged under
refused : (s : List ℕ) (derived : ℕ × List ℕ) (e : Refusal) (after : List ℕ) → ◌≡◌ {A = ℕ × List ℕ} (number_of e, after) derived
    → number_of e ≡ verdict_of s derived
refused s derived e after h = subst (λ (d : ℕ × List ℕ). number_of e ≡ verdict_of s d) h (rw (refusal_tested e))

derived : (s : List ℕ) (answer : ℕ × List ℕ) (after : List ℕ) → ◌≡◌ {A = ℕ × List ℕ} (done, after) answer
    → verdict_under s after ≡ verdict_of s answer
derived s answer after h = subst (λ (d : ℕ × List ℕ). verdict_under s after ≡ verdict_of s d) h refl

pub returns-in_err-hash-clause-number : goal.returns-in_err-hash-clause-number
returns-in_err-hash-clause-number c =
    let r = c.args.read in
    let s = c.args.report.now in
    let e : Refusal = c.in_err-hash.field-0.0 in
    let unknown = which_unknown r.hash (rw c.from-number.ensures at c.in_err-hash.ensures) e refl in
    rw (passed_on c.from_residual.ensures.1, unknown.1)
    (sym (ap (verdict_of s) (keys_unknown r.hash c.args.prk.now r.tenant r.machine (key_space r.hash) unknown.0)))

pub returns-in_err-keys-clause-number : goal.returns-in_err-keys-clause-number
returns-in_err-keys-clause-number c =
    let r = c.args.read in
    let e : Refusal = c.in_err-keys.field-0.0 in
    let known = which_is r.hash (rw c.from-number.ensures at c.in_ok-hash.ensures) c.in_ok-hash.hash refl in
    let fit : take (2 * c.digest_size.result) (replicate 128 0) ≡ key_space r.hash = rw (c.digest_size.ensures, sym known.1) (both_fit r.hash known.0) in
    rw (passed_on c.from_residual-in_err-keys.ensures.1)
    (refused c.args.report.now (keys_answer r.hash c.args.prk.now r.tenant r.machine (key_space r.hash)) e c.keys.new.out
    (rw (c.from-number.ensures, fit) at c.in_err-keys.ensures))

pub returns-clause-number : goal.returns-clause-number
returns-clause-number c =
    let r = c.args.read in
    let known = which_is r.hash (rw c.from-number.ensures at c.in_ok-hash.ensures) c.in_ok-hash.hash refl in
    let fit : take (2 * c.digest_size.result) (replicate 128 0) ≡ key_space r.hash = rw (c.digest_size.ensures, sym known.1) (both_fit r.hash known.0) in
    c.judge_under.ensures.number
    ∙ derived c.args.report.now (keys_answer r.hash c.args.prk.now r.tenant r.machine (key_space r.hash)) c.keys.new.out
    (rw (c.from-number.ensures, fit) at c.in_ok-keys.ensures)
