-- Proved: no second outcome: what meets the outcome predicate of a call, as its contract cites it, is one. Assumes nothing.
use Rattle.std.specs.Prelude.{◌≡◌, Bool, List, ℕ, Result}
use Rattle.std.proofs.Common.{ap}
use Rattle.algorithm.specs.Checks.Laws.{one_outcome}
use Rattle.hmac.specs.Calls.{Started, Fed, started_by, StartOutcome, SoundOutcome, UpdateOutcome, TagOutcome, VerifyOutcome, TagMessageOutcome, VerifyMessageOutcome}
use Rattle.hmac.specs.declared.keyed.Keyed.{Keyed}
use Rattle.algorithm.specs.Answers.Laws.{valued_unique}
use Rattle.algorithm.specs.declared.refusals.Refusal.{Refusal}
use Rattle.hmac.specs.Keyed.{zero_keyed}

pub start_unique : (n : ℕ) (key : List ℕ) (t : ℕ) (r r' : Started) → StartOutcome n key t r → StartOutcome n key t r' → r ≡ r'
start_unique n key t r r' = one_outcome

pub sound_unique : (k : Keyed) (r r' : Bool) → SoundOutcome k r → SoundOutcome k r' → r ≡ r'
sound_unique k r r' = one_outcome

pub update_unique : (k : Keyed) (p : List ℕ) (r r' : Fed) → UpdateOutcome k p r → UpdateOutcome k p r' → r ≡ r'
update_unique k p r r' = one_outcome

pub tag_unique : (k : Keyed) (out : List ℕ) (r r' : ℕ) (o o' : List ℕ)
    → TagOutcome k out r o → TagOutcome k out r' o' → ◌≡◌ {A = ℕ × List ℕ} (r, o) (r', o')
tag_unique k out r r' o o' = one_outcome

pub verify_unique : (k : Keyed) (presented : List ℕ) (r r' : ℕ) → VerifyOutcome k presented r → VerifyOutcome k presented r' → r ≡ r'
verify_unique k presented r r' = one_outcome

pub tag_message_unique : (n : ℕ) (key m : List ℕ) (t : ℕ) (out : List ℕ) (r r' : ℕ) (o o' : List ℕ)
    → TagMessageOutcome n key m t out r o → TagMessageOutcome n key m t out r' o' → ◌≡◌ {A = ℕ × List ℕ} (r, o) (r', o')
tag_message_unique n key m t out r r' o o' = one_outcome

pub verify_message_unique : (n : ℕ) (key m : List ℕ) (t : ℕ) (presented : List ℕ) (r r' : ℕ)
    → VerifyMessageOutcome n key m t presented r → VerifyMessageOutcome n key m t presented r' → r ≡ r'
verify_message_unique n key m t presented r r' = one_outcome

-- nor does a second answer of the code to a start have one number and keyed state
pub start_answer_unique : (r r' : Result Keyed Refusal) → started_by r ≡ started_by r' → r ≡ r'
start_answer_unique r r' h = valued_unique zero_keyed r r' (ap (λ (f : Started). (f.number, f.keyed)) h)
