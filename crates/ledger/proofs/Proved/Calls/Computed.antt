-- Proved: what the private functions compute is what the calls answer. Assumes nothing.
use Rattle.std.specs.Prelude.{◌≡◌, refl, true, false, ◌||◌, List, eqb, leb, Ok, Err}
use Rattle.std.proofs.Common.{sym, ap, ◌∙◌, arith}
use Rattle.std.proofs.Math.Bool.{Bool, not, cond}
use Prim.Native.Nat.{ℕ, ◌+◌}
use Rattle.std.proofs.Math.Decide.{ℕ_discrete}
use borrow.Author.Tests.{ne_eqb}
use Rattle.octets.specs.Sums.{largest_total}
use Rattle.algorithm.specs.Answers.{number_of}
use Rattle.algorithm.specs.Answers.Laws.{refusal_not_done}
use Rattle.algorithm.specs.Cases.Laws.{test}
use Rattle.algorithm.specs.Cases.Test.{yes, no}
use Rattle.algorithm.specs.Refusals.{done, state_not_sound, ledger_full, total_too_large}
use Rattle.algorithm.specs.Checks.{first_failing}
use Rattle.algorithm.specs.Checks.Laws.{append_refuses, append_passes, done_work}
use Rattle.algorithm.specs.declared.refusals.Refusal.{Refusal}
use Rattle.algorithm.specs.declared.refusals.Refusal.TheVariants.{StateNotSound}
use Rattle.ledger.specs.Records.{zero_record, all_used, taken, total_of, sound, entered}
use Rattle.ledger.specs.Calls.{Answer, Summed, Submission, fingerprint_in, live_in, record_of, report_checks, room_checks, submit_answer, summed_by, total_answer}
use Rattle.ledger.specs.Calls.Answer.{New, Seen, Refused}
use Rattle.ledger.proofs.Proved.Calls.Laws.{report_refusing}
use Rattle.ledger.specs.Inside.{tally_of, sum_in, judged_by, judged_of, judged_in, enter_of, entered_judged, settled}
use Rattle.ledger.proofs.Proved.Inside.Laws.{sum_is, sound_is}
use Rattle.ledger.proofs.Proved.Inside.Entering.{enter_accepted, enter_refused}
use Rattle.ledger.specs.declared.records.Record.{Record}
use Rattle.ledger.specs.declared.surveying.Tally.{Tally}

-- what a tally says of the whole slice is what the total answers
pub total_is : (rs : List Record) → summed_by (sum_in (tally_of rs)) ≡ total_answer rs
unfolding total_answer
total_is rs = rw (sum_is rs) (by_sound (sound rs))
  where
    by_sound : (b : Bool) → ◌≡◌ {A = Summed} (summed_by (cond b (Ok (total_of rs)) (Err StateNotSound)))
        (record { number = cond b done state_not_sound; total = cond (eqb (cond b done state_not_sound) done) (total_of rs) 0 })
    by_sound true = refl
    by_sound false = refl

-- what a submission answers: by the slice, then by the checks of the report and its keys, then by its fingerprint and the room for it
module _ (rs : List Record) (x : Submission) where
  submit_unsound : sound rs ≡ false → submit_answer rs x ≡ (Refused state_not_sound, rs)
  unfolding submit_answer
  submit_unsound s = rw s

  module _ (s : sound rs ≡ true) where
    submit_bad : (first_failing (report_checks x) ≡ done → ⊥) → submit_answer rs x ≡ (Refused (first_failing (report_checks x)), rs)
    unfolding submit_answer
    submit_bad z = rw (s, append_refuses (report_checks x) (room_checks rs x) z, ne_eqb (first_failing (report_checks x)) done z)

    submit_placed : first_failing (report_checks x) ≡ done → submit_answer rs x ≡ settled rs (record_of x)
    unfolding submit_answer
    submit_placed d =
        rw (s, append_passes (report_checks x) (room_checks rs x) d (report_refusing x))
        (by_tests (taken (fingerprint_in x) rs) (all_used rs) (leb (total_of rs + live_in x) largest_total))
      where
        number : Bool → Bool → Bool → ℕ
        number t a l = cond (t || not a) (cond (t || l) done total_too_large) ledger_full

        by_tests : (t a l : Bool) → ◌≡◌ {A = Answer × List Record}
            (cond (eqb (number t a l) done) (cond t (Seen, rs) (New, entered (record_of x) rs)) (Refused (number t a l), rs))
            (cond t (Seen, rs) (cond a (Refused ledger_full, rs) (cond l (New, entered (record_of x) rs) (Refused total_too_large, rs))))
        by_tests true a l = refl
        by_tests false true l = refl
        by_tests false false false = refl
        by_tests false false true = refl

-- what becomes of a report that was judged for the records is what a submission answers and leaves
pub submit_is : (rs : List Record) (x : Submission) → entered_judged (tally_of rs) (judged_in (tally_of rs) x) rs ≡ submit_answer rs x
unfolding judged_of
submit_is rs x = rw (sound_is rs) (by_sound (sound rs) refl)
  where
    by_sound : (b : Bool) → sound rs ≡ b
        → entered_judged (tally_of rs) (cond b (judged_of x) (state_not_sound, zero_record)) rs ≡ submit_answer rs x
    by_sound false e = enter_refused (tally_of rs) rs (state_not_sound, zero_record) (λ z. omega (arith, z)) ∙ sym (submit_unsound rs x e)
    by_sound true e = elim (ℕ_discrete (first_failing (report_checks x)) done) [
      | Prim.no z ↦ enter_refused (tally_of rs) rs (judged_of x) z ∙ sym (submit_bad rs x e z)
      | Prim.yes d ↦
          rw (d, enter_accepted rs e (record_of x)) (sym (submit_placed rs x e d))
    ]

-- so this is what a submission answers where it is refused, and where its record is entered
module _ (rs : List Record) (x : Submission) {t : Tally} (k : t ≡ tally_of rs) where
  judged_is : (j : ℕ × Record) → j ≡ judged_in t x → entered_judged t j rs ≡ submit_answer rs x
  judged_is j h = (λ i. entered_judged (k i) ((h ∙ ap (λ (u : Tally). judged_in u x) k) i) rs) ∙ submit_is rs x

  pub refused_is : (e : Refusal) → judged_by (Err e) ≡ judged_in t x → (Refused (number_of e), rs) ≡ submit_answer rs x
  refused_is e h = sym (enter_refused t rs (judged_by (Err e)) (refusal_not_done e)) ∙ judged_is (judged_by (Err e)) h

  pub accepted_is : (r : Record) → judged_by (Ok r) ≡ judged_in t x → enter_of t r rs ≡ submit_answer rs x
  accepted_is r h = judged_is (judged_by (Ok r)) h
