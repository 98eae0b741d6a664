-- Believed: what a retry keeps and what it changes. The fingerprint stays; the bytes that the tag covers change with the send time and
-- the attempt. The proof is in proofs/Proved/Retry/Laws.antt. Assumes nothing.
use Rattle.std.specs.Prelude.{◌≡◌, ◌↔◌, List, ◌∷◌, ◌++◌, ℕ, replicate}
use Rattle.report.specs.Layout.{AgreeButSendTimeAndAttempt}
use Rattle.report.specs.Reading.{before_tag, read_of, WellFormed}
use Rattle.report.specs.Fingerprint.{fingerprint_of}
use Rattle.report.specs.Calls.{fingerprint_answer}

-- a report, and the same one sent again: both are well-formed and agree in every field but the send time and the attempt, whatever
-- their tags are
pub record SentAgain (s t : List ℕ) : Type 0 where
  pub first : WellFormed s
  pub second : WellFormed t
  pub agree : AgreeButSendTimeAndAttempt (read_of s).1 (read_of t).1

pub record Retry : Type 0 where
  -- Under one key both have one fingerprint,
  pub fingerprint : (s t key : List ℕ) → SentAgain s t → fingerprint_of s key ≡ fingerprint_of t key
  -- and the call answers both alike, whatever key and output it is lent.
  pub answer : (s t key out : List ℕ) → SentAgain s t → fingerprint_answer s key out ≡ fingerprint_answer t key out
  -- The tags cover the same bytes exactly when the send times are the same and the attempts are: where either differs, so do the bytes
  -- before the tags. Nothing is said of the tags themselves: that would be a claim about the strength of the hash.
  pub tagged : (s t : List ℕ) → SentAgain s t
      → before_tag s ≡ before_tag t ↔ (((read_of s).1.sent ≡ (read_of t).1.sent) × ((read_of s).1.attempt ≡ (read_of t).1.attempt))

-- the smallest report under hash 1, sent at this time, below 256, with this attempt; tenant, machine, report number, memory and tag are
-- zeros
abbrev pub smallest_with : ℕ → ℕ → List ℕ
smallest_with time attempt = 0 ∷ 0 ∷ 0 ∷ 57 ∷ 1 ∷ 1 ∷ replicate 27 0 ++ (time ∷ attempt ∷ replicate 26 0)
