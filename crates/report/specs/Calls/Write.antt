-- Proved: laws of writing a report: what its checks say where they pass, and what the call answers once they are known. Assumes nothing.
use Rattle.std.specs.Prelude.{◌≡◌, refl, ◌↔◌, true, ◌&&◌, List, [], ◌∷◌, ◌++◌, ℕ, ◌≤◌, leb, eqb, length}
use Rattle.std.proofs.Common.{sym, ap, ◌∙◌, leb-true, le-leb, eqb-true, eq-eqb}
use Rattle.std.proofs.Math.Decide.{ℕ_discrete}
use Rattle.octets.specs.Every.Laws.{and_parts}
use Rattle.octets.specs.Sums.{sum_of, largest_total}
use Rattle.algorithm.specs.Refusals.{done, buffer_too_short}
use Rattle.algorithm.specs.Checks.{Check, check, first_failing, Pass, Refusing, Fail}
use Rattle.algorithm.specs.Checks.Pass.{all, and}
use Rattle.algorithm.specs.Checks.Refusing.{none}
use Rattle.algorithm.specs.Checks.Laws.{done_passes, passes_done, refuses, exactly, exactly_done, pass_append, refusing_append, refused_given, done_work}
use Rattle.report.specs.Layout.{Fields}
use Rattle.report.specs.Writing.{Columns, sites_of, fields_from, report_of}
use Rattle.report.specs.Writing.Inside.{ColumnsFit, Planned, Accepted, plan_checks}
use Rattle.report.specs.Calls.{Written, key_checks, column_checks, write_checks, refused_write, wrote_report, write_answer}
use Rattle.report.specs.Calls.Laws.{key_refusing}
use Rattle.report.specs.declared.writing.Heading.{Heading}

-- what passing checks say: those of the columns, those before the key, and all
module _ (c : Columns) where
  pub columns_refusing : Refusing (column_checks c)
  columns_refusing = refuses _ _ (refuses _ _ (refuses _ _ (refuses _ _ (refuses _ _ none))))

  columns_right : Pass (column_checks c) → ColumnsFit c
  columns_right (and sizes (and few (and labels (and whole (and sum all))))) =
      let same = and_parts (eqb (length c.live) (length c.lengths)) (eqb (length c.blocks) (length c.lengths)) sizes in
      record {
        live_many = eqb-true (length c.live) (length c.lengths) same.0;
        blocks_many = eqb-true (length c.blocks) (length c.lengths) same.1;
        few = leb-true (length c.lengths) 64 few;
        lengths_fit = labels;
        labels_add_up = eqb-true (length c.labels) (sum_of c.lengths) whole;
        sum = leb-true (sum_of c.live) largest_total sum;
      }

  pub columns_pass : ColumnsFit c → Pass (column_checks c)
  columns_pass r =
      let sizes : (eqb (length c.live) (length c.lengths) && eqb (length c.blocks) (length c.lengths)) ≡ true =
      rw (eq-eqb (length c.live) (length c.lengths) r.live_many, eq-eqb (length c.blocks) (length c.lengths) r.blocks_many)
      in
      and sizes
      (and (le-leb (length c.lengths) 64 r.few)
      (and r.lengths_fit
      (and (eq-eqb (length c.labels) (sum_of c.lengths) r.labels_add_up) (and (le-leb (sum_of c.live) largest_total r.sum) all))))

  pub columns_fit : first_failing (column_checks c) ≡ done → ColumnsFit c
  columns_fit e = columns_right (done_passes (column_checks c) columns_refusing e)

module _ (n : ℕ) (c : Columns) where
  pub plan_refusing : Refusing (plan_checks n c)
  plan_refusing = refuses _ _ (columns_refusing c)

  pub plan_parts : Pass (plan_checks n c) → Planned n c
  plan_parts (and known p) = record { known = known; columns_fit = columns_right c p }

  pub planned : first_failing (plan_checks n c) ≡ done → Planned n c
  planned e = plan_parts (done_passes (plan_checks n c) plan_refusing e)

module _ (h : Heading) (c : Columns) (key out : List ℕ) where
  abbrev made : Fields
  made = fields_from h (sites_of c)

  abbrev room : Check
  room = check (leb (length (report_of made key)) (length out)) buffer_too_short

  abbrev last_checks : List Check
  last_checks = key_checks key ++ (room ∷ [])

  pub write_refusing : Refusing (write_checks h c key out)
  write_refusing =
      refusing_append (plan_checks h.hash c) last_checks (plan_refusing h.hash c)
      (refusing_append (key_checks key) (room ∷ []) (key_refusing key) (refuses _ _ none))

  room_there : Pass (room ∷ []) → length (report_of made key) ≤ length out
  room_there (and r all) = leb-true (length (report_of made key)) (length out) r

  pub accepted : first_failing (write_checks h c key out) ≡ done → Accepted h c key out
  accepted e =
      let parts = (pass_append (plan_checks h.hash c) last_checks).0 (done_passes (write_checks h c key out) write_refusing e) in
      let last-parts = (pass_append (key_checks key) (room ∷ [])).0 parts.1 in
      record { planned = plan_parts h.hash c parts.0; key_passes = last-parts.0; room = room_there last-parts.1 }

  accepts : Accepted h c key out → first_failing (write_checks h c key out) ≡ done
  accepts a =
      passes_done
      ((pass_append (plan_checks h.hash c) last_checks).1 (
        and a.planned.known (columns_pass c a.planned.columns_fit),
        (pass_append (key_checks key) (room ∷ [])).1 (a.key_passes, and (le-leb (length (report_of made key)) (length out) a.room) all),
      ))

  -- an accepted call leaves the report over the beginning of the buffer, and a refused one the buffer as it was
  pub write_accepted : Accepted h c key out → write_answer h c key out ≡ wrote_report (report_of made key) out
  unfolding write_answer
  write_accepted a = done_work (write_checks h c key out) _ _ (accepts a)

  pub write_refused : (n : ℕ) → first_failing (write_checks h c key out) ≡ n → (n ≡ done → ⊥) → write_answer h c key out ≡ (refused_write n, out)
  unfolding write_answer
  write_refused n e z = refused_given (write_checks h c key out) _ _ (λ d. z (sym e ∙ d)) ∙ (λ i. (refused_write (e i), out))

  -- the number is that of the first check that fails: each comes back exactly when its check fails and every earlier one passes, and
  -- the call is done exactly when every check passes
  pub write_number : (write_answer h c key out).0.number ≡ first_failing (write_checks h c key out)
  write_number = elim (ℕ_discrete (first_failing (write_checks h c key out)) done) [
    | yes e ↦ ap (λ (r : Written × List ℕ). r.0.number) (write_accepted (accepted e)) ∙ sym e
    | no z ↦ ap (λ (r : Written × List ℕ). r.0.number) (write_refused (first_failing (write_checks h c key out)) refl z)
  ]

  pub write_exactly : (r : ℕ) → (r ≡ done → ⊥) → (write_answer h c key out).0.number ≡ r ↔ Fail (write_checks h c key out) r
  write_exactly r z =
      let e = exactly (write_checks h c key out) r z in
      (λ d. e.0 (sym write_number ∙ d), λ f. write_number ∙ e.1 f)

  pub write_done : (write_answer h c key out).0.number ≡ done ↔ Pass (write_checks h c key out)
  write_done =
      let e = exactly_done (write_checks h c key out) write_refusing in
      (λ d. e.0 (sym write_number ∙ d), λ p. write_number ∙ e.1 p)
