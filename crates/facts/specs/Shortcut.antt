-- Believed: a shortcut that looks right: a fingerprint's message that leaves out the lengths of the labels. Two well-formed reports
-- that disagree in their sites would share it. The proof is in Shortcut/Laws.antt. Assumes nothing.
pub mod Laws
use Rattle.std.specs.Prelude.{◌≡◌, List, [], ◌∷◌, ◌++◌, ℕ, ◌+◌, replicate}
use Rattle.std.proofs.Math.Seq.{slice}
use Rattle.octets.specs.Number.{bytes}
use Rattle.report.specs.Layout.{Site, AgreeButSendTimeAndAttempt}
use Rattle.report.specs.Reading.{tag_start, sites_in, read_of, WellFormed}
use Rattle.report.specs.Fingerprint.{gap_start, gap_end}

-- sites without the lengths of their labels, one after the other
unfoldable pub unmeasured : List Site → List ℕ
unmeasured [] = []
unmeasured (x ∷ xs) = x.label ++ (bytes 8 x.live ++ (bytes 4 x.blocks ++ unmeasured xs))

-- the fingerprint's message but for the lengths of all labels
unfoldable pub without_lengths : List ℕ → List ℕ
without_lengths s = slice 4 gap_start s ++ (slice gap_end 45 s ++ unmeasured (sites_in s).1)

-- the fingerprint's message but for the length of the first label, which stands at 45
unfoldable pub without_first_length : List ℕ → List ℕ
without_first_length s = slice 4 gap_start s ++ (slice gap_end 45 s ++ slice 46 (tag_start s) s)

-- a report of two sites under hash 1, with zeros for its tag; each site is given by the length of its label and the bytes after it
abbrev pub two_sites : ℕ → List ℕ → ℕ → List ℕ → List ℕ
two_sites a x b y = 0 ∷ 0 ∷ 0 ∷ 86 ∷ 1 ∷ 1 ∷ replicate 37 0 ++ (0 ∷ 2 ∷ a ∷ x ++ (b ∷ y ++ replicate 16 0))

-- so many bytes 7
abbrev pub sevens : ℕ → List ℕ
sevens n = replicate n 7

-- two well-formed reports share such a message, and disagree in more than the send time and the attempt
pub record Shared (message : List ℕ → List ℕ) (s t : List ℕ) : Type 0 where
  pub first : WellFormed s
  pub second : WellFormed t
  pub same : message s ≡ message t
  pub differ : AgreeButSendTimeAndAttempt (read_of s).1 (read_of t).1 → ⊥
