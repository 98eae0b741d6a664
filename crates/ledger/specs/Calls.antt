-- Believed: what each public call answers, for all arguments: its checks in their order, and the work where none fails. An outcome
-- predicate is what the call's contract says; Calls/Unique.antt shows that no second outcome meets it. Assumes nothing.
pub mod Unique
use Rattle.std.specs.Prelude.{◌≡◌, true, false, not, cond, ◌||◌, List, [], ◌∷◌, ◌++◌, ℕ, ◌+◌, ◌≤◌, leb, Result, Ok, Err}
use Rattle.octets.specs.Sums.{largest_total}
use Rattle.algorithm.specs.Refusals.{done, state_not_sound, ledger_full, total_too_large}
use Rattle.algorithm.specs.Answers.{number_of, valued}
use Rattle.algorithm.specs.Checks.{Check, check, first_failing, decided, Pass}
use Rattle.algorithm.specs.declared.refusals.Refusal.{Refusal}
use Rattle.report.specs.Layout.{live_of}
use Rattle.report.specs.Reading.{fields_of}
use Rattle.report.specs.Fingerprint.{fingerprint_of}
use Rattle.report.specs.Calls.{key_checks, tag_checks}
use Rattle.ledger.specs.Records.{used_record, all_used, taken, total_of, sound, entered}
use Rattle.ledger.specs.declared.records.Record.{Record}
use Rattle.ledger.specs.declared.answers.Answer as answers

-- what is submitted: a report and its two keys
pub record Submission : Type 0 where
  pub report : List ℕ
  pub tag_key : List ℕ
  pub fingerprint_key : List ℕ

abbrev pub submission : List ℕ → List ℕ → List ℕ → Submission
submission report tag_key fingerprint_key = record { report = report; tag_key = tag_key; fingerprint_key = fingerprint_key }

-- the fingerprint and the live bytes of the report, and the record that is entered for it
abbrev pub fingerprint_in : Submission → List ℕ
fingerprint_in x = fingerprint_of x.report x.fingerprint_key

abbrev pub live_in : Submission → ℕ
live_in x = live_of (fields_of x.report).sites

abbrev pub record_of : Submission → Record
record_of x = used_record (fingerprint_in x) (live_in x)

-- the checks of the report and its keys: reading, the tag key, the tag, the fingerprint key
abbrev pub report_checks : Submission → List Check
report_checks x = tag_checks x.report x.tag_key ++ key_checks x.fingerprint_key

-- those of a report that is not seen: a free record, and a sum that fits
abbrev pub room_checks : List Record → Submission → List Check
room_checks rs x =
    check (taken (fingerprint_in x) rs || not (all_used rs)) ledger_full
    ∷ check (taken (fingerprint_in x) rs || leb (total_of rs + live_in x) largest_total) total_too_large
    ∷ []

-- what a submission answers: new and entered, seen before, or refused with its number
pub data Answer : Type 0 where
  New : Answer
  Seen : Answer
  Refused : ℕ → Answer

-- the answer of the code as such a one
abbrev pub answer_by : Result answers.Answer Refusal → Answer
answer_by (Ok answers.Answer.New) = New
answer_by (Ok answers.Answer.Seen) = Seen
answer_by (Err e) = Refused (number_of e)

-- submit(records, submission)
abbrev pub submit_checks : List Record → Submission → List Check
submit_checks rs x = check (sound rs) state_not_sound ∷ report_checks x ++ room_checks rs x

unfoldable pub submit_answer : List Record → Submission → Answer × List Record
submit_answer rs x =
    let cs : List Check = submit_checks rs x in
    decided cs (cond (taken (fingerprint_in x) rs) (Seen, rs) (New, entered (record_of x) rs)) (Refused (first_failing cs), rs)

abbrev pub SubmitOutcome : List Record → Submission → Answer → List Record → Type 0
SubmitOutcome rs x r after = ◌≡◌ {A = Answer × List Record} (r, after) (submit_answer rs x)

-- the records after a sequence of submissions
unfoldable pub after_all : List Submission → List Record → List Record
after_all [] rs = rs
after_all (x ∷ xs) rs = after_all xs (submit_answer rs x).1

-- what is so of a report that was seen before: the slice is sound, the report and its keys are good, and its fingerprint is taken
pub record IsSeen (rs : List Record) (x : Submission) : Type 0 where
  pub state : sound rs ≡ true
  pub good : Pass (report_checks x)
  pub known : taken (fingerprint_in x) rs ≡ true

-- and of a new one: its fingerprint is not taken, a record is free, and the sum fits
pub record IsNew (rs : List Record) (x : Submission) : Type 0 where
  pub state : sound rs ≡ true
  pub good : Pass (report_checks x)
  pub unknown : taken (fingerprint_in x) rs ≡ false
  pub room : all_used rs ≡ false
  pub fits : total_of rs + live_in x ≤ largest_total

-- the number that comes back in each case of `Answer`, and its value: 1 where the report was seen before, else 0
abbrev pub answer_of : Answer → ℕ × ℕ
answer_of New = (done, 0)
answer_of Seen = (done, 1)
answer_of (Refused n) = (n, 0)

-- answer_number(answer) and answer_seen(answer)
abbrev pub AnswerNumberOutcome : Answer → ℕ → Type 0
AnswerNumberOutcome a r = r ≡ (answer_of a).0

abbrev pub AnswerSeenOutcome : Answer → ℕ → Type 0
AnswerSeenOutcome a r = r ≡ (answer_of a).1

-- a submission as C sees it: the number, what is seen, and the records
abbrev pub shown : Answer × List Record → (ℕ × ℕ) × List Record
shown p = (answer_of p.0, p.1)

abbrev pub SubmitShownOutcome : List Record → List ℕ → List ℕ → List ℕ → ℕ → ℕ → List Record → Type 0
SubmitShownOutcome rs s tag_key fingerprint_key r seen after =
    ◌≡◌ {A = (ℕ × ℕ) × List Record} ((r, seen), after) (shown (submit_answer rs (submission s tag_key fingerprint_key)))

-- total(records): the number, and the sum of the used records' live bytes
pub record Summed : Type 0 where
  pub number : ℕ
  pub total : ℕ

-- the answer of the code as such a number and sum: 0 where it is refused
abbrev pub summed_by : Result ℕ Refusal → Summed
summed_by r = let a = valued 0 r in record { number = a.0; total = a.1 }

abbrev pub total_checks : List Record → List Check
total_checks rs = check (sound rs) state_not_sound ∷ []

unfoldable pub total_answer : List Record → Summed
total_answer rs = record { number = first_failing (total_checks rs); total = decided (total_checks rs) (total_of rs) 0 }

abbrev pub TotalOutcome : List Record → Summed → Type 0
TotalOutcome rs r = r ≡ total_answer rs
