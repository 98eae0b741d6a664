-- `ledger::judging::judge` meets its contract: the tag's check, then the fingerprint, whose reading passes where the tag's did. Assumes
-- nothing.
use Rattle.std.specs.Prelude.{◌≡◌, refl, List, ℕ, eqb, length, Ok, Err}
use Rattle.std.proofs.Common.{sym, ap, ◌∙◌, rules, eqb-true}
use Rattle.std.proofs.lemmas.Bool.{eqb-false}
use Rattle.algorithm.specs.Answers.{number_of}
use Rattle.algorithm.specs.Answers.Laws.{refusal_not_done}
use Rattle.algorithm.specs.Cases.Laws.{test}
use Rattle.algorithm.specs.Cases.Test.{yes, no}
use Rattle.algorithm.specs.Refusals.{done}
use Rattle.algorithm.specs.Checks.{first_failing}
use Rattle.algorithm.specs.Checks.Laws.{passes_done, fails_number, append_refuses, append_passes, pass_append, refused_given, done_work}
use Rattle.algorithm.specs.declared.refusals.Refusal.{Refusal}
use Rattle.report.specs.Reading.{read_checks}
use Rattle.report.specs.Reading.Laws.{passed}
use Rattle.report.specs.Calls.{Reading, key_checks, tag_checks, CheckOutcome, FingerprintOutcome, ReadOutcome, reading_by}
use Rattle.report.specs.Calls.Laws.{tag_refusing, check_exactly, check_done, fingerprint_done, fingerprint_key_lem, fingerprint_accepted, read_passes}
use Rattle.report.specs.declared.reading.Reading as reading
use Rattle.ledger.specs.Records.{zero_record, used_record}
use Rattle.ledger.specs.Calls.{Submission, fingerprint_in, live_in, record_of, report_checks}
use Rattle.ledger.specs.Lent.{submission_in}
use Rattle.ledger.specs.Inside.{sum_in, judged_by, judged_of, judged_in}
use Rattle.ledger.specs.declared.surveying.Tally.{Tally}
use Rattle.ledger.proofs.judging.judge.Goals as goal

-- a report whose tag matches was read
module _ (s tag_key : List ℕ) (d : CheckOutcome s tag_key done) where
  read_done : first_failing (read_checks s) ≡ done
  read_done = passes_done ((pass_append (read_checks s) _).0 ((check_done s tag_key).0 (sym d))).0

  read_refuses : (e : Refusal) → ReadOutcome s (reading_by (Err e)) → ⊥
  read_refuses e h = refusal_not_done e (ap (λ (r : Reading). r.number) (h ∙ read_passes s (passed s read_done)))

module _ (t : Tally) (x : Submission) {live : ℕ} (k : Ok live ≡ sum_in t) where
  abbrev s : List ℕ
  s = x.report

  abbrev tag_key : List ℕ
  tag_key = x.tag_key

  abbrev fingerprint_key : List ℕ
  fingerprint_key = x.fingerprint_key

  -- what is judged, once the first failing check is known
  judged_refused : (e : Refusal) → number_of e ≡ first_failing (report_checks x) → judged_by (Err e) ≡ judged_in t x
  unfolding judged_of
  judged_refused e n =
      rw (sym k) (λ i. (n i, sym (refused_given (report_checks x) (record_of x) zero_record (λ d. refusal_not_done e (n ∙ d))) i))

  judged_accepted : first_failing (report_checks x) ≡ done
      → judged_by (Ok (used_record (fingerprint_in x) (live_in x))) ≡ judged_in t x
  unfolding judged_of
  judged_accepted d = rw (sym k) (λ i. (sym d i, sym (done_work (report_checks x) (record_of x) zero_record d) i))

  -- the tag's check refuses the report
  tag_refuses : (e : Refusal) → CheckOutcome s tag_key (number_of e) → judged_by (Err e) ≡ judged_in t x
  tag_refuses e h =
      let n = fails_number ((check_exactly (number_of e) (refusal_not_done e) s tag_key).0 (sym h)) in
      judged_refused e (sym (append_refuses (tag_checks s tag_key) (key_checks fingerprint_key) (λ d. refusal_not_done e (sym n ∙ d)) ∙ n))

  -- or the fingerprint key decides
  module _ (d : CheckOutcome s tag_key done) (out after : List ℕ) (size : length out ≡ 32) where
    then_key : first_failing (report_checks x) ≡ first_failing (key_checks fingerprint_key)
    then_key =
        append_passes (tag_checks s tag_key) (key_checks fingerprint_key) (passes_done ((check_done s tag_key).0 (sym d))) (tag_refusing s tag_key)

    key_refuses : (e : Refusal) → FingerprintOutcome s fingerprint_key out (number_of e) after → judged_by (Err e) ≡ judged_in t x
    key_refuses e h = elim (test (eqb (first_failing (key_checks fingerprint_key)) done)) [
      | yes b ↦
          let e-done = h ∙ fingerprint_accepted s fingerprint_key out (passed s (read_done s tag_key d)) (eqb-true _ done b) size in
          absurd (refusal_not_done e (ap (λ (p : ℕ × List ℕ). p.0) e-done))
      | no b ↦
          let e-key = h ∙ fingerprint_key_lem s fingerprint_key out (passed s (read_done s tag_key d)) (eqb-false _ done b) in
          judged_refused e (ap (λ (p : ℕ × List ℕ). p.0) e-key ∙ sym then_key)
    ]

    accepts : FingerprintOutcome s fingerprint_key out done after → (r : reading.Reading) → ReadOutcome s (reading_by (Ok r))
        → judged_by (Ok (used_record after r.live)) ≡ judged_in t x
    accepts h r read =
        let all = (fingerprint_done s fingerprint_key out).0 (sym (ap (λ (p : ℕ × List ℕ). p.0) h)) in
        let key = passes_done ((pass_append (key_checks fingerprint_key) _).0 ((pass_append (read_checks s) _).0 all).1).0 in
        let p = passed s (read_done s tag_key d) in
        let made : after ≡ fingerprint_in x = ap (λ (p : ℕ × List ℕ). p.1) (h ∙ fingerprint_accepted s fingerprint_key out p key size) in
        let live : r.live ≡ live_in x = ap (λ (q : Reading). q.live) (read ∙ read_passes s p) in
        rw (made, live) (judged_accepted (then_key ∙ key))

pub returns-in_err-check : goal.returns-in_err-check
returns-in_err-check c =
    let is = tag_refuses c.args.tally (submission_in c.args.submission.now) c.in_ok-sum_in.ensures _ c.in_err-check.ensures in
    search rules

pub returns-in_err-fingerprint : goal.returns-in_err-fingerprint
returns-in_err-fingerprint c =
    let is = key_refuses c.args.tally (submission_in c.args.submission.now) c.in_ok-sum_in.ensures c.in_ok-check.ensures _ _ refl _ c.in_err-fingerprint.ensures in
    search rules

pub returns-in_err-read : goal.returns-in_err-read
returns-in_err-read c = absurd (read_refuses _ _ c.in_ok-check.ensures _ c.in_err-read.ensures)

pub returns : goal.returns
returns c =
    accepts c.args.tally (submission_in c.args.submission.now) c.in_ok-sum_in.ensures c.in_ok-check.ensures _ _ refl c.in_ok-fingerprint.ensures _ c.in_ok-read.ensures
