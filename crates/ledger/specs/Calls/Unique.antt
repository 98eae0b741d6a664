-- Proved: no second outcome: what meets the outcome predicate of a call, as its contract cites it, is one. Assumes nothing.
use Rattle.std.specs.Prelude.{◌≡◌, refl, List, ℕ, Result, Ok, Err}
use Rattle.std.proofs.Common.{ap}
use Rattle.algorithm.specs.Answers.Laws.{refusal_unique, valued_unique}
use Rattle.algorithm.specs.Checks.Laws.{one_outcome}
use Rattle.algorithm.specs.declared.refusals.Refusal.{Refusal}
use Rattle.ledger.specs.Calls.{Submission, Answer, Summed, answer_by, summed_by, SubmitOutcome, AnswerNumberOutcome, AnswerSeenOutcome, SubmitShownOutcome, TotalOutcome}
use Rattle.ledger.specs.declared.answers.Answer as answers
use Rattle.ledger.specs.declared.records.Record.{Record}

pub submit_unique : (rs : List Record) (x : Submission) (r r' : Answer) (o o' : List Record)
    → SubmitOutcome rs x r o → SubmitOutcome rs x r' o' → ◌≡◌ {A = Answer × List Record} (r, o) (r', o')
submit_unique rs x r r' o o' = one_outcome

pub answer_number_unique : (a : Answer) (r r' : ℕ) → AnswerNumberOutcome a r → AnswerNumberOutcome a r' → r ≡ r'
answer_number_unique a r r' = one_outcome

pub answer_seen_unique : (a : Answer) (r r' : ℕ) → AnswerSeenOutcome a r → AnswerSeenOutcome a r' → r ≡ r'
answer_seen_unique a r r' = one_outcome

pub submit_shown_unique : (rs : List Record) (s tag_key fingerprint_key : List ℕ) (r r' seen seen' : ℕ) (o o' : List Record)
    → SubmitShownOutcome rs s tag_key fingerprint_key r seen o → SubmitShownOutcome rs s tag_key fingerprint_key r' seen' o'
    → ◌≡◌ {A = (ℕ × ℕ) × List Record} ((r, seen), o) ((r', seen'), o')
submit_shown_unique rs s tag_key fingerprint_key r r' seen seen' o o' = one_outcome

pub total_unique : (rs : List Record) (r r' : Summed) → TotalOutcome rs r → TotalOutcome rs r' → r ≡ r'
total_unique rs r r' = one_outcome

-- nor does a second answer of the code have one view
pub submit_answer_unique : (r r' : Result answers.Answer Refusal) → answer_by r ≡ answer_by r' → r ≡ r'
submit_answer_unique (Ok answers.Answer.New) (Ok answers.Answer.New) h = refl
submit_answer_unique (Ok answers.Answer.New) (Ok answers.Answer.Seen) h = cc
submit_answer_unique (Ok answers.Answer.New) (Err f) h = cc
submit_answer_unique (Ok answers.Answer.Seen) (Ok answers.Answer.New) h = cc
submit_answer_unique (Ok answers.Answer.Seen) (Ok answers.Answer.Seen) h = refl
submit_answer_unique (Ok answers.Answer.Seen) (Err f) h = cc
submit_answer_unique (Err e) (Ok answers.Answer.New) h = cc
submit_answer_unique (Err e) (Ok answers.Answer.Seen) h = cc
submit_answer_unique (Err e) (Err f) h = ap Err (refusal_unique e f (cc))

pub total_answer_unique : (r r' : Result ℕ Refusal) → summed_by r ≡ summed_by r' → r ≡ r'
total_answer_unique r r' h = valued_unique 0 r r' (ap (λ (s : Summed). (s.number, s.total)) h)
