-- Private: what the private functions ask and promise, and the cases that the proofs go by. Assumes nothing.
use Rattle.std.specs.Prelude.{◌≡◌, true, false, cond, List, ℕ, ◌+◌, ◌≤◌, ◌<◌, ltb, length, take}
use Rattle.report.specs.Layout.{largest_report}
use Rattle.stream.specs.Stream.{total_of, in_range, waits}
use Rattle.stream.specs.Calls.{Fed, filled, on_hand, taken}

-- what bytes begin with
pub data Beginning (s : List ℕ) : Type 0 where
  waiting : waits s ≡ true → Beginning s
  closing : waits s ≡ false → in_range (total_of s) ≡ false → Beginning s
  whole : waits s ≡ false → in_range (total_of s) ≡ true → Beginning s

-- a number of bytes to be collected, with room for them
pub record Goal (collected goal : ℕ) (buffer : List ℕ) : Type 0 where
  pub ahead : collected ≤ goal
  pub room : goal ≤ length buffer

-- bytes on hand stand at the beginning of the buffer: up to the goal, or all there are
abbrev pub reached : ℕ → ℕ → List ℕ → ℕ
reached collected goal piece = cond (ltb (collected + length piece) goal) (collected + length piece) goal

abbrev pub CollectOutcome : ℕ → ℕ → List ℕ → List ℕ → List ℕ → Type 0
CollectOutcome collected goal buffer piece after = after ≡ filled (reached collected goal piece) (on_hand collected buffer piece) buffer

-- an open stream whose report is on its way
pub record Waiting (collected : ℕ) (buffer : List ℕ) : Type 0 where
  pub few : collected < largest_report
  pub size : length buffer ≡ largest_report
  pub wait : waits (take collected buffer) ≡ true

abbrev pub TakeOutcome : ℕ → List ℕ → List ℕ → Fed → List ℕ → Type 0
TakeOutcome collected buffer piece r after =
    ◌≡◌ {A = Fed × List ℕ} (r, after) (taken (on_hand collected buffer piece) collected (length piece) buffer)

-- the same answer with more bytes used before it
abbrev pub later_fed : Fed → ℕ → Fed
later_fed fed before = record { answer = fed.answer; used = before + fed.used; length = fed.length; state = fed.state }
