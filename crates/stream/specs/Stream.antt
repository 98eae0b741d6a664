-- Believed: a stream of reports, from its bytes alone: the first four bytes name a total, a report of so many bytes is cut off, and so on
-- from the byte after it. Nothing here knows of pieces or of a buffer. Assumes nothing.
use Rattle.std.specs.Prelude.{Bool, cond, ◌&&◌, ◌||◌, List, [], ◌∷◌, ℕ, zero, suc, ◌+◌, leb, ltb, eqb, length, take, drop}
use Rattle.octets.specs.Number.{number_at}
use Rattle.algorithm.specs.Refusals.{done, wrong_report_length}
use Rattle.report.specs.Layout.{smallest_report, largest_report}
use Rattle.report.specs.Reading.{read_of}

-- the total: the first four bytes' number plus 4
unfoldable pub total_of : List ℕ → ℕ
total_of s = number_at s 0 4 + 4

-- whether a report can have so many bytes
unfoldable pub in_range : ℕ → Bool
in_range t = leb smallest_report t && leb t largest_report

-- bytes that wait for more: fewer than four, or fewer than their total, which is in range
unfoldable pub waits : List ℕ → Bool
waits s = ltb (length s) 4 || (in_range (total_of s) && ltb (length s) (total_of s))

-- by what bytes begin with: a report that waits for more, a total out of range, which closes the stream, or a whole report
abbrev pub by_beginning {ℓ} : {A : Type ℓ} → List ℕ → A → A → A → A
by_beginning s waiting closing whole = cond (waits s) waiting (cond (in_range (total_of s)) whole closing)

-- more bytes are wanted; a whole report that the plain reader lets pass; or refused with its number, as a whole report may be too
pub data Answer : Type 0 where
  More : Answer
  Whole : Answer
  Refused : ℕ → Answer

-- the answer to a whole report, by the plain reader's number
abbrev pub answer_to : ℕ → Answer
answer_to n = cond (eqb n done) Whole (Refused n)

abbrev pub read_answer : List ℕ → Answer
read_answer report = answer_to (read_of report).0

-- an answer other than "more", with the bytes of its report
abbrev pub Event : Type 0
Event = Answer × List ℕ

abbrev pub reads : List ℕ → Event
reads report = (read_answer report, report)

-- the one that closes the stream has no report
abbrev pub closes : Event
closes = (Refused wrong_report_length, [])

-- the first n answers to some bytes, up to and including the one that closes the stream
unfoldable pub answers_for : ℕ → List ℕ → List Event
answers_for zero s = []
answers_for (suc n) s = by_beginning s [] (closes ∷ []) (reads (take (total_of s) s) ∷ answers_for n (drop (total_of s) s))

-- all of them: there are no more than bytes, since each but the last uses some
abbrev pub answers_of : List ℕ → List Event
answers_of s = answers_for (length s) s
