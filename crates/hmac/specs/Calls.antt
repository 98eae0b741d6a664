-- Believed: what each public call answers, for all arguments: its checks in their order, and the work where none fails. An outcome
-- predicate is what the call's contract says; Calls/Unique.antt shows that no second outcome meets it. Assumes nothing.
pub mod Laws
pub mod Unique
pub mod Inner
use Rattle.std.specs.Prelude.{◌≡◌, Bool, List, [], ◌∷◌, ◌++◌, ℕ, ◌+◌, ◌-◌, leb, eqb, length, Result}
use Rattle.octets.specs.Same.{equal}
use Rattle.algorithm.specs.Hashes.{names, hash_of, block_of, allowed}
use Rattle.algorithm.specs.Refusals.{tag_differs, unknown_hash, key_too_long, message_too_long, tag_length_out_of_range, wrong_size, state_not_sound, most_bytes}
use Rattle.algorithm.specs.Answers.{valued}
use Rattle.algorithm.specs.Checks.{Check, check, first_failing, decided, answered}
use Rattle.hmac.specs.Hmac.{tag_of}
use Rattle.hmac.specs.Keyed.{sound_keyed, fresh_keyed, zero_keyed, after_keyed, keyed_tag}
use Rattle.hmac.specs.declared.keyed.Keyed.{Keyed}
use Rattle.algorithm.specs.declared.refusals.Refusal.{Refusal}

-- a number with a keyed state: what a start answers, and what a piece leads to
pub record Started : Type 0 where
  pub number : ℕ
  pub keyed : Keyed

pub record Fed : Type 0 where
  pub number : ℕ
  pub keyed : Keyed

abbrev pub started : ℕ → Keyed → Started
started n k = record { number = n; keyed = k }

abbrev pub fed : ℕ → Keyed → Fed
fed n k = record { number = n; keyed = k }

-- the answer of the code to a start as such a number and keyed state: one that is refused is one with zeros that name hash 1
abbrev pub started_by : Result Keyed Refusal → Started
started_by r = let a = valued zero_keyed r in started a.0 a.1

-- start(hash_number, key, tag_length)
abbrev pub start_checks : ℕ → List ℕ → ℕ → List Check
start_checks n key t =
    check (names n) unknown_hash ∷ check (leb (length key) most_bytes) key_too_long ∷ check (allowed (hash_of n) t) tag_length_out_of_range ∷ []

pub start_of : ℕ → List ℕ → ℕ → Started
start_of n key t =
    record { number = first_failing (start_checks n key t); keyed = decided (start_checks n key t) (fresh_keyed (hash_of n) key t) zero_keyed }

abbrev pub StartOutcome : ℕ → List ℕ → ℕ → Started → Type 0
StartOutcome n key t r = r ≡ start_of n key t

-- sound(keyed)
abbrev pub SoundOutcome : Keyed → Bool → Type 0
SoundOutcome k r = r ≡ sound_keyed k

-- update(keyed, piece)
abbrev pub update_checks : Keyed → List ℕ → List Check
update_checks k p = check (sound_keyed k) state_not_sound ∷ check (leb (k.count + length p) most_bytes) message_too_long ∷ []

pub update_of : Keyed → List ℕ → Fed
update_of k p = record { number = first_failing (update_checks k p); keyed = decided (update_checks k p) (after_keyed k p) k }

abbrev pub UpdateOutcome : Keyed → List ℕ → Fed → Type 0
UpdateOutcome k p r = r ≡ update_of k p

-- as many bytes as the tag has, for the output or for what is presented
abbrev pub size_checks : ℕ → List ℕ → List Check
size_checks t bytes = check (eqb (length bytes) t) wrong_size ∷ []

-- what is presented, compared with a tag
abbrev pub compare_checks : List ℕ → List ℕ → List Check
compare_checks presented tag = check (equal presented tag) tag_differs ∷ []

-- tag(keyed, out)
abbrev pub tag_checks : Keyed → List ℕ → List Check
tag_checks k bytes = check (sound_keyed k) state_not_sound ∷ size_checks k.tag_length bytes

pub tag_answer : Keyed → List ℕ → ℕ × List ℕ
tag_answer k out = answered (tag_checks k out) (keyed_tag k) out

abbrev pub TagOutcome : Keyed → List ℕ → ℕ → List ℕ → Type 0
TagOutcome k out r after = ◌≡◌ {A = ℕ × List ℕ} (r, after) (tag_answer k out)

-- verify(keyed, presented): the checks of the tag, and then the comparison
abbrev pub verify_checks : Keyed → List ℕ → List Check
verify_checks k presented = tag_checks k presented ++ compare_checks presented (keyed_tag k)

pub verify_answer : Keyed → List ℕ → ℕ
verify_answer k presented = first_failing (verify_checks k presented)

abbrev pub VerifyOutcome : Keyed → List ℕ → ℕ → Type 0
VerifyOutcome k presented r = r ≡ verify_answer k presented

-- a message that fits after the block of its key
abbrev pub fit_checks : ℕ → List ℕ → List Check
fit_checks n m = check (leb (length m) (most_bytes - block_of (hash_of n))) message_too_long ∷ []

-- a message that is taken in one piece: the checks of the start, and then that it fits
abbrev pub taken_checks : ℕ → List ℕ → List ℕ → ℕ → List Check
taken_checks n key m t = start_checks n key t ++ fit_checks n m

-- tag_message(hash_number, key, message, tag_length, out): the checks of a message that is taken, and then of the size
abbrev pub message_checks : ℕ → List ℕ → List ℕ → ℕ → List ℕ → List Check
message_checks n key m t bytes = taken_checks n key m t ++ size_checks t bytes

pub tag_message_answer : ℕ → List ℕ → List ℕ → ℕ → List ℕ → ℕ × List ℕ
tag_message_answer n key m t out = answered (message_checks n key m t out) (tag_of (hash_of n) key t m) out

abbrev pub TagMessageOutcome : ℕ → List ℕ → List ℕ → ℕ → List ℕ → ℕ → List ℕ → Type 0
TagMessageOutcome n key m t out r after = ◌≡◌ {A = ℕ × List ℕ} (r, after) (tag_message_answer n key m t out)

-- verify_message(hash_number, key, message, tag_length, presented): the checks of the tag, and then the comparison
abbrev pub verify_message_checks : ℕ → List ℕ → List ℕ → ℕ → List ℕ → List Check
verify_message_checks n key m t presented = message_checks n key m t presented ++ compare_checks presented (tag_of (hash_of n) key t m)

pub verify_message_answer : ℕ → List ℕ → List ℕ → ℕ → List ℕ → ℕ
verify_message_answer n key m t presented = first_failing (verify_message_checks n key m t presented)

abbrev pub VerifyMessageOutcome : ℕ → List ℕ → List ℕ → ℕ → List ℕ → ℕ → Type 0
VerifyMessageOutcome n key m t presented r = r ≡ verify_message_answer n key m t presented
