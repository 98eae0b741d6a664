-- Believed: a stream cut into pieces and fed one after the other, with the rest of a piece always fed again. Assumes nothing.
use Rattle.std.specs.Prelude.{Bool, true, false, cond, ℕ, zero, suc, ◌+◌, length, take, drop}
use mathlib.Core.List.{List, [], ◌∷◌, flatten}
use Rattle.stream.specs.Stream.{Answer, More, Whole, Refused, Event}
use Rattle.stream.specs.Calls.{Fed, fresh_state, is_closed, feed_answer}
use Rattle.stream.specs.declared.answers.State.{State}

abbrev pub is_more : Answer → Bool
is_more More = true
is_more Whole = false
is_more (Refused n) = false

-- a feed's answer, with its report's bytes as they stand in the buffer
abbrev pub noted : Fed × List ℕ → Event
noted f = (f.0.answer, take f.0.length f.1)

-- on from a feed of a piece: after "more" with the next piece; after any other answer, which is noted, with the rest of this piece, unless
-- the stream is closed
abbrev pub onward : (State → List ℕ → List (List ℕ) → List Event) → Fed × List ℕ → List ℕ → List (List ℕ) → List Event
onward go f p ps =
    cond (is_more f.0.answer)
    (go f.0.state f.1 ps)
    (noted f ∷ cond (is_closed f.0.state) [] (go f.0.state f.1 (drop f.0.used p ∷ ps)))

-- the answers other than "more" of n feeds at most
unfoldable pub feeds : ℕ → State → List ℕ → List (List ℕ) → List Event
feeds zero state buffer ps = []
feeds (suc n) state buffer [] = []
feeds (suc n) state buffer (p ∷ ps) = onward (feeds n) (feed_answer state buffer p) p ps

-- the whole run from the fresh state: a feed uses up a piece, or a byte, or closes the stream, so that there are no more feeds than these
abbrev pub run_of : List ℕ → List (List ℕ) → List Event
run_of buffer ps = feeds (length (flatten ps) + length ps) fresh_state buffer ps
