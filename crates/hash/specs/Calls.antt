-- Believed: what each public call answers, for all arguments: its checks in their order, and the work where none fails. An outcome
-- predicate is what the call's contract says; Calls/Unique.antt shows that no second outcome meets it. Assumes nothing.
pub mod Unique
use Rattle.std.specs.Prelude.{◌≡◌, ℕ, ◌+◌, Bool, List, [], ◌∷◌, length, ◌==◌, nat_le, Result}
use Rattle.algorithm.specs.Hashes.{names, hash_of, size_of}
use Rattle.algorithm.specs.Refusals.{unknown_hash, message_too_long, wrong_size, state_not_sound, most_bytes}
use Rattle.algorithm.specs.Answers.{valued}
use Rattle.algorithm.specs.Checks.{Check, check, first_failing, decided, answered}
use Rattle.hash.specs.Digest.{digest_of}
use Rattle.hash.specs.State.{sound_of, fresh_of, zero_state, after_of, end_of}
use Rattle.hash.specs.declared.state.State.{State}
use Rattle.algorithm.specs.declared.hashes.Hash.{Hash}
use Rattle.algorithm.specs.declared.refusals.Refusal.{Refusal}

-- a number with a state: what a start answers, and what a piece leads to
pub record Started : Type 0 where
  pub number : ℕ
  pub state : State

pub record Fed : Type 0 where
  pub number : ℕ
  pub state : State

abbrev pub started : ℕ → State → Started
started n s = record { number = n; state = s }

abbrev pub fed : ℕ → State → Fed
fed n s = record { number = n; state = s }

-- the answer of the code to a start as such a number and state: one that is refused is one with zeros that name hash 1
abbrev pub started_by : Result State Refusal → Started
started_by r = let a = valued zero_state r in started a.0 a.1

-- start(hash_number)
abbrev pub start_checks : ℕ → List Check
start_checks n = check (names n) unknown_hash ∷ []

unfoldable pub start_of : ℕ → Started
start_of n = record { number = first_failing (start_checks n); state = decided (start_checks n) (fresh_of (hash_of n)) zero_state }

abbrev pub StartOutcome : ℕ → Started → Type 0
StartOutcome n r = r ≡ start_of n

-- fresh(hash)
abbrev pub FreshOutcome : Hash → State → Type 0
FreshOutcome h r = r ≡ fresh_of h

-- sound(state)
abbrev pub SoundOutcome : State → Bool → Type 0
SoundOutcome s r = r ≡ sound_of s

-- update(state, piece)
abbrev pub update_checks : State → List ℕ → List Check
update_checks s p = check (sound_of s) state_not_sound ∷ check (nat_le (s.count + length p) most_bytes) message_too_long ∷ []

unfoldable pub update_of : State → List ℕ → Fed
update_of s p = record { number = first_failing (update_checks s p); state = decided (update_checks s p) (after_of s p) s }

abbrev pub UpdateOutcome : State → List ℕ → Fed → Type 0
UpdateOutcome s p r = r ≡ update_of s p

-- finish(state, out)
abbrev pub finish_checks : State → List ℕ → List Check
finish_checks s out = check (sound_of s) state_not_sound ∷ check (length out == size_of s.hash) wrong_size ∷ []

unfoldable pub finish_of : State → List ℕ → ℕ × List ℕ
finish_of s out = answered (finish_checks s out) (end_of s) out

abbrev pub FinishOutcome : State → List ℕ → ℕ → List ℕ → Type 0
FinishOutcome s out r after = ◌≡◌ {A = ℕ × List ℕ} (r, after) (finish_of s out)

-- digest(hash_number, message, out)
abbrev pub digest_checks : ℕ → List ℕ → List ℕ → List Check
digest_checks n m out =
    check (names n) unknown_hash
    ∷ check (nat_le (length m) most_bytes) message_too_long
    ∷ check (length out == size_of (hash_of n)) wrong_size
    ∷ []

unfoldable pub digest_answer : ℕ → List ℕ → List ℕ → ℕ × List ℕ
digest_answer n m out = answered (digest_checks n m out) (digest_of (hash_of n) m) out

abbrev pub DigestOutcome : ℕ → List ℕ → List ℕ → ℕ → List ℕ → Type 0
DigestOutcome n m out r after = ◌≡◌ {A = ℕ × List ℕ} (r, after) (digest_answer n m out)
