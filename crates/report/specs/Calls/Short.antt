-- Proved: each call on a report that takes a key answers 21 exactly when the key has fewer than 16 bytes and every check before that
-- passes. Assumes nothing.
use Rattle.std.specs.Prelude.{◌≡◌, refl, ◌↔◌, true, List, [], ◌∷◌, ◌++◌, ℕ, ◌<◌, leb, eqb, length, drop}
use Rattle.std.proofs.Common.{sym, ◌∙◌, inl, inr, ⊎_elim, arith}
use Rattle.octets.specs.Same.{equal}
use Rattle.algorithm.specs.Refusals.{tag_differs, wrong_size, buffer_too_short, key_too_short}
use Rattle.algorithm.specs.Checks.{Check, check, first_failing, Pass, Refusing}
use Rattle.algorithm.specs.Checks.Pass.{and}
use Rattle.algorithm.specs.Checks.Laws.{append_number, other_number}
use Rattle.hmac.specs.Hmac.{tag_of}
use Rattle.report.specs.Reading.{names_hash, hash_in, tag_size_in, tag_start, before_tag, read_checks}
use Rattle.report.specs.Reading.Laws.{read_refusing, at_most, read_most}
use Rattle.report.specs.Writing.{Columns, sites_of, fields_from, report_of}
use Rattle.report.specs.Writing.Inside.{plan_checks}
use Rattle.report.specs.Calls.{key_checks, tag_checks, column_checks, check_answer, fingerprint_answer, write_answer}
use Rattle.report.specs.Calls.Laws.{key_refusing, key_too_short_lem}
use Rattle.report.specs.Calls.Write.{plan_refusing, write_number}
use Rattle.report.specs.declared.writing.Heading.{Heading}

-- checks of a key after some and before one more, none of which has the number 21
between : (key : List ℕ) (first : List Check) (last : Check) → Refusing first → (first_failing first ≡ key_too_short → ⊥)
    → (last.number ≡ key_too_short → ⊥)
    → first_failing (first ++ (key_checks key ++ (last ∷ []))) ≡ key_too_short ↔ (Pass first × (length key < 16))
between key first last r other later =
    let whole = append_number first (key_checks key ++ (last ∷ [])) key_too_short (λ z. omega arith) r in
    let rest = append_number (key_checks key) (last ∷ []) key_too_short (λ z. omega arith) (key_refusing key) in (
      λ e. ⊎_elim (λ d. absurd (other d)) (λ p. (p.0, ⊎_elim (key_too_short_lem key).0 (λ q. absurd (other_number last [] key_too_short later (λ z. omega arith) q.1)) (rest.0 p.1))) (whole.0 e),
      λ p. whole.1 (inr (p.0, rest.1 (inl ((key_too_short_lem key).1 p.1)))),
    )

module _ (s key : List ℕ) where
  -- the checks of the tag, and the call that answers by them
  pub tag_too_short : first_failing (tag_checks s key) ≡ key_too_short ↔ (Pass (read_checks s) × (length key < 16))
  tag_too_short =
      let same : Check = check (equal (drop (tag_start s) s) (tag_of (hash_in s) key (tag_size_in s) (before_tag s))) tag_differs in
      between key (read_checks s) same (read_refusing s) (λ e. omega (arith, read_most s)) (λ z. omega arith)

  pub check_too_short : check_answer s key ≡ key_too_short ↔ (Pass (read_checks s) × (length key < 16))
  unfolding check_answer
  check_too_short = tag_too_short

  pub fingerprint_too_short : (out : List ℕ) → (fingerprint_answer s key out).0 ≡ key_too_short ↔ (Pass (read_checks s) × (length key < 16))
  unfolding fingerprint_answer
  fingerprint_too_short out =
      between key (read_checks s) (check (eqb (length out) 32) wrong_size) (read_refusing s) (λ e. omega (arith, read_most s)) (λ z. omega arith)

pub write_too_short : (h : Heading) (c : Columns) (key out : List ℕ)
    → (write_answer h c key out).0.number ≡ key_too_short ↔ ((names_hash h.hash ≡ true) × Pass (column_checks c) × (length key < 16))
write_too_short h c key out =
    let plan : List Check = plan_checks h.hash c in
    let room : Check = check (leb (length (report_of (fields_from h (sites_of c)) key)) (length out)) buffer_too_short in
    let whole = between key plan room (plan_refusing h.hash c) (λ e. omega (arith, at_most 16 plan refl)) (λ z. omega arith) in (
      λ e. let p = whole.0 (sym (write_number h c key out) ∙ e) in let parts = split p.0 in (parts.0, parts.1, p.1),
      λ p. write_number h c key out ∙ whole.1 (and p.0 p.1, p.2),
    )
  where
    split : Pass (plan_checks h.hash c) → (names_hash h.hash ≡ true) × Pass (column_checks c)
    split (and known p) = (known, p)
