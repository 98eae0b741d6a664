-- Proved: no second outcome: what meets the outcome predicate of a call, as its contract cites it, is one. Assumes nothing.
use Rattle.std.specs.Prelude.{◌≡◌, ℕ, Bool, List, Result}
use Rattle.std.proofs.Common.{ap}
use Rattle.algorithm.specs.Checks.Laws.{one_outcome}
use Rattle.hash.specs.State.{zero_state}
use Rattle.hash.specs.Calls.{Started, Fed, started_by, StartOutcome, FreshOutcome, SoundOutcome, UpdateOutcome, FinishOutcome, DigestOutcome}
use Rattle.hash.specs.declared.state.State.{State}
use Rattle.algorithm.specs.Answers.Laws.{valued_unique}
use Rattle.algorithm.specs.declared.hashes.Hash.{Hash}
use Rattle.algorithm.specs.declared.refusals.Refusal.{Refusal}

pub start_unique : (n : ℕ) (r r' : Started) → StartOutcome n r → StartOutcome n r' → r ≡ r'
start_unique n r r' = one_outcome

pub fresh_unique : (h : Hash) (r r' : State) → FreshOutcome h r → FreshOutcome h r' → r ≡ r'
fresh_unique h r r' = one_outcome

pub sound_unique : (s : State) (r r' : Bool) → SoundOutcome s r → SoundOutcome s r' → r ≡ r'
sound_unique s r r' = one_outcome

pub update_unique : (s : State) (p : List ℕ) (r r' : Fed) → UpdateOutcome s p r → UpdateOutcome s p r' → r ≡ r'
update_unique s p r r' = one_outcome

pub finish_unique : (s : State) (out : List ℕ) (r r' : ℕ) (o o' : List ℕ)
    → FinishOutcome s out r o → FinishOutcome s out r' o' → ◌≡◌ {A = ℕ × List ℕ} (r, o) (r', o')
finish_unique s out r r' o o' = one_outcome

pub digest_unique : (n : ℕ) (m out : List ℕ) (r r' : ℕ) (o o' : List ℕ)
    → DigestOutcome n m out r o → DigestOutcome n m out r' o' → ◌≡◌ {A = ℕ × List ℕ} (r, o) (r', o')
digest_unique n m out r r' o o' = one_outcome

-- nor does a second answer of the code to a start have one number and state
pub start_answer_unique : (r r' : Result State Refusal) → started_by r ≡ started_by r' → r ≡ r'
start_answer_unique r r' h = valued_unique zero_state r r' (ap (λ (f : Started). (f.number, f.state)) h)
