-- `report::lists::read_into`: what `read` answers, then the size of the list. Assumes nothing.
use Rattle.std.proofs.Common.{◌≡◌, sym, ap, ◌∙◌, List, ℕ, length, take, arith}
use Rattle.octets.specs.Copy.{over}
use Rattle.octets.specs.Copy.Laws.{over_long}
use Rattle.algorithm.specs.Answers.Laws.{refusal_not_done, passed_on}
use Rattle.algorithm.specs.Refusals.{done}
use Rattle.algorithm.specs.Checks.{first_failing, written}
use Rattle.report.specs.Reading.{fields_of, read_checks, read_of}
use Rattle.report.specs.Reading.Laws.{passed, read_fields}
use Rattle.report.specs.Calls.{Reading, reading_of, list_of, numbers_of}
use Rattle.report.specs.Calls.Laws.{read_into_refused, read_into_wrong_size, read_into_accepted}
use Rattle.report.proofs.lists.read_into.Goals as goal

module _ (s : List ℕ) {r : Reading} (e : r ≡ reading_of (read_of s)) where
  number_is : r.number ≡ first_failing (read_checks s)
  unfolding read_of
  number_is = ap (λ (x : Reading). x.number) e

  -- the list of a reading that is not refused is that of the fields, and fills eleven places
  filled : (fields : List ℕ) → length fields ≡ 11 → first_failing (read_checks s) ≡ done → over (list_of r) fields ≡ numbers_of (fields_of s)
  unfolding read_of
  filled fields n d =
      over_long (list_of r) fields (omega arith)
      ∙ ap (λ (k : ℕ). take k (list_of r)) n
      ∙ ap list_of e
      ∙ ap numbers_of (read_fields s d)

pub returns-in_err-found : goal.returns-in_err-found
returns-in_err-found c =
    let s = c.args.report.now in
    let f = c.in_err-found.field-0.0 in
    let e = number_is s c.in_err-found.ensures in
    rw (passed_on c.from_residual.ensures.1)
    (ap (λ (n : ℕ). written n c.args.fields.now) e ∙ sym (read_into_refused s c.args.fields.now (λ d. refusal_not_done f (e ∙ d))))

pub returns-then-fields-ne-FIELDS : goal.returns-then-fields-ne-FIELDS
returns-then-fields-ne-FIELDS c =
    let s = c.args.report.now in
    sym (read_into_wrong_size s c.args.fields.now (passed s (sym (number_is s c.in_ok-found.ensures))) c.if-fields-ne-FIELDS.true)

pub returns : goal.returns
returns c =
    let s = c.args.report.now in
    let fields = c.args.fields.now in
    let d = sym (number_is s c.in_ok-found.ensures) in
    let size = c.if-fields-ne-FIELDS.false in
    ap (written done) (c.copy_prefix.ensures ∙ ap (λ (l : List ℕ). over l fields) c.listed.ensures ∙ filled s c.in_ok-found.ensures fields size d)
    ∙ sym (read_into_accepted s fields (passed s d) size)
