-- Believed: what each public call answers, for all arguments: its checks in their order, and the bytes taken in where none fails. An
-- outcome predicate is what the call's contract says; Calls/Unique.antt shows that no second outcome meets it. Assumes nothing.
pub mod Unique
use Rattle.std.specs.Prelude.{◌≡◌, Bool, true, false, not, ◌||◌, List, [], ◌∷◌, ◌++◌, ℕ, ◌-◌, ◌≤◌, leb, eqb, length, take, drop, Option, Some, None, Result, Ok, Err}
use Rattle.std.specs.declared.num.NonZeroUsize.{NonZeroUsize}
use Rattle.std.specs.Int.NonZero.{non_zero_usize_get}
use Rattle.algorithm.specs.Refusals.{done, wrong_size, state_not_sound, wrong_report_length}
use Rattle.algorithm.specs.Answers as numbers
use Rattle.algorithm.specs.declared.refusals.Refusal.{Refusal}
use Rattle.algorithm.specs.Checks.{Check, check, first_failing, decided, Pass}
use Rattle.report.specs.Layout.{largest_report}
use Rattle.stream.specs.Stream.{Answer, More, Whole, Refused, total_of, in_range, waits, by_beginning, read_answer}
use Rattle.stream.specs.declared.answers.State.{State}
use Rattle.stream.specs.declared.answers.Answer as answers
use Rattle.stream.specs.declared.answers.Answer.TheVariants as answer
use Rattle.stream.specs.declared.answers.Fed as feds

-- the state before the first feed, that of a stream that a total closes, and whether a stream is closed
abbrev pub fresh_state : State
fresh_state = record { collected = 0; closed = 0 }

abbrev pub closed_state : State
closed_state = record { collected = 0; closed = 1 }

abbrev pub is_closed : State → Bool
is_closed state = not (eqb state.closed 0)

-- the most bytes that wait in the buffer: one fewer than the largest report has
abbrev pub most_collected : ℕ
most_collected = 3980

-- the number that comes back in each case of `Answer`
abbrev pub number_of : Answer → ℕ
number_of More = done
number_of Whole = done
number_of (Refused n) = n

-- the answer of the code as such an answer
abbrev pub answer_by : Result answers.Answer Refusal → Answer
answer_by (Ok answer.More) = More
answer_by (Ok answer.Whole) = Whole
answer_by (Err e) = Refused (numbers.number_of e)

-- what a feed answers
pub record Fed : Type 0 where
  pub answer : Answer
  pub used : ℕ
  pub length : ℕ
  pub state : State

-- the answer of the code as such values: the length is 0 where it gives none
abbrev pub length_by : Option NonZeroUsize → ℕ
length_by None = 0
length_by (Some n) = non_zero_usize_get n

abbrev pub fed_by : feds.Fed → Fed
fed_by f = record { answer = answer_by f.answer; used = f.used; length = length_by f.length; state = f.state }

-- and the values beside it: bytes used of the piece, the length of a whole report, the state. A check that fails uses nothing and hands
-- the state back
abbrev pub refused_fed : State → ℕ → Fed
refused_fed state n = record { answer = Refused n; used = 0; length = 0; state = state }

-- more is wanted: so many bytes are collected now
abbrev pub more_fed : ℕ → ℕ → Fed
more_fed used collected = record { answer = More; used = used; length = 0; state = record { collected = collected; closed = 0 } }

-- a total out of range closes the stream
abbrev pub closing_fed : ℕ → Fed
closing_fed used = record { answer = Refused wrong_report_length; used = used; length = 0; state = closed_state }

-- a report is whole, whatever the plain reader says of it
abbrev pub whole_fed : List ℕ → ℕ → Fed
whole_fed report used = record { answer = read_answer report; used = used; length = length report; state = fresh_state }

-- feed(state, buffer, piece)
abbrev pub feed_checks : State → List ℕ → List Check
feed_checks state buffer =
    check (leb state.collected most_collected) state_not_sound
    ∷ check (eqb (length buffer) largest_report) wrong_size
    ∷ check (is_closed state || waits (take state.collected buffer)) state_not_sound
    ∷ check (not (is_closed state)) wrong_report_length
    ∷ []

-- the bytes of an open stream from the end of its last report on: those collected, then the piece
abbrev pub on_hand : ℕ → List ℕ → List ℕ → List ℕ
on_hand collected buffer piece = take collected buffer ++ piece

-- the first n of them over the beginning of the buffer, whose other bytes stay
abbrev pub filled : ℕ → List ℕ → List ℕ → List ℕ
filled n s buffer = take n s ++ drop n buffer

-- what is taken in of the bytes on hand, s, of which `collected` were there and `given` come from the piece: all of them, or up to the
-- fourth, or up to the end of the report
abbrev pub taken : List ℕ → ℕ → ℕ → List ℕ → Fed × List ℕ
taken s collected given buffer =
    by_beginning s
    (more_fed given (length s), filled (length s) s buffer)
    (closing_fed (4 - collected), filled 4 s buffer)
    (whole_fed (take (total_of s) s) (total_of s - collected), filled (total_of s) s buffer)

unfoldable pub feed_answer : State → List ℕ → List ℕ → Fed × List ℕ
feed_answer state buffer piece =
    let cs : List Check = feed_checks state buffer in
    decided cs (taken (on_hand state.collected buffer piece) state.collected (length piece) buffer) (refused_fed state (first_failing cs), buffer)

abbrev pub FeedOutcome : State → List ℕ → List ℕ → Fed → List ℕ → Type 0
FeedOutcome state buffer piece r after = ◌≡◌ {A = Fed × List ℕ} (r, after) (feed_answer state buffer piece)

-- what is so of a feed that wants more, of one that closes the stream, and of one that makes a report whole
pub record WantsMore (state : State) (buffer piece : List ℕ) : Type 0 where
  pub passed : Pass (feed_checks state buffer)
  pub few : waits (on_hand state.collected buffer piece) ≡ true

pub record Closes (state : State) (buffer piece : List ℕ) : Type 0 where
  pub passed : Pass (feed_checks state buffer)
  pub four : 4 ≤ length (on_hand state.collected buffer piece)
  pub out : in_range (total_of (on_hand state.collected buffer piece)) ≡ false

pub record MakesWhole (state : State) (buffer piece : List ℕ) : Type 0 where
  pub passed : Pass (feed_checks state buffer)
  pub range : in_range (total_of (on_hand state.collected buffer piece)) ≡ true
  pub enough : total_of (on_hand state.collected buffer piece) ≤ length (on_hand state.collected buffer piece)

-- answer_number(answer)
abbrev pub AnswerNumberOutcome : Answer → ℕ → Type 0
AnswerNumberOutcome a r = r ≡ number_of a

-- a feed as C sees it: the number, the bytes used, the length of a whole report, the state and the buffer
abbrev pub shown : Fed × List ℕ → (ℕ × ℕ × ℕ) × State × List ℕ
shown p = ((number_of p.0.answer, p.0.used, p.0.length), p.0.state, p.1)

abbrev pub FeedShownOutcome : State → List ℕ → List ℕ → ℕ → ℕ → ℕ → State → List ℕ → Type 0
FeedShownOutcome state buffer piece r used length state' after =
    ◌≡◌ {A = (ℕ × ℕ × ℕ) × State × List ℕ} ((r, used, length), state', after) (shown (feed_answer state buffer piece))
