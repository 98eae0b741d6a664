-- Proved: however a stream is cut, its answers are those of its bytes. Assumes nothing.
use Rattle.std.specs.Prelude.{◌≡◌}
use Rattle.std.proofs.Math.Path.{refl, sym, ap, ap₂}
use Rattle.std.proofs.Common.{◌∙◌, arith, length-take-le}
use Rattle.std.proofs.Math.Bool.{true, false}
use mathlib.Core.List.{List, [], ◌∷◌, ◌++◌, flatten, append_assoc, append-nil}
use Prim.Native.Nat.{ℕ, zero, suc, ◌+◌, ◌-◌, ◌≤◌, ◌<◌}
use Rattle.std.proofs.Math.ListN.{length, take, drop, length-append, length-drop}
use Rattle.std.proofs.Math.Seq.{take-append-le, drop-append-le}
use Rattle.report.specs.Layout.{largest_report}
use Rattle.report.specs.Reading.{read_of}
use Rattle.stream.specs.Stream.{total_of, in_range, waits, reads, Event, answers_for, answers_of}
use Rattle.stream.proofs.Proved.Stream.Laws.{in_range_lem, waits_long, waits_whole, beginning_is, begun, answers_closing, answers_whole, answers_waiting}
use Rattle.stream.specs.Calls.{Fed, fresh_state, more_fed, closing_fed, whole_fed, filled, on_hand, taken, feed_answer}
use Rattle.stream.proofs.Proved.Calls.Laws.{whole_not_more, waits_pass, passed_answer}
use Rattle.stream.specs.Inside.{Beginning, Waiting}
use Rattle.stream.specs.Inside.Beginning.{waiting, closing, whole}
use Rattle.stream.proofs.Proved.Inside.Laws.{taken_more, taken_closing, taken_whole, take_filled, hand_length, hand_drop, whole_ahead, fresh_waits, more_held, more_waits, whole_waits}
use Rattle.stream.specs.Runs.{onward, feeds, run_of}
use Rattle.stream.specs.declared.answers.State.{State}

-- one feed of a run
one_feed : (n : ℕ) (state : State) (buffer p : List ℕ) (ps : List (List ℕ)) (x : Fed × List ℕ)
    → feed_answer state buffer p ≡ x → feeds (suc n) state buffer (p ∷ ps) ≡ onward (feeds n) x p ps
unfolding feeds
one_feed n state buffer p ps x e = ap (λ (y : Fed × List ℕ). onward (feeds n) y p ps) e

-- no piece left
no_feed : (n : ℕ) (state : State) (buffer : List ℕ) → feeds n state buffer [] ≡ []
unfolding feeds
no_feed zero state buffer = refl
no_feed (suc n) state buffer = refl

-- from any open state, with enough feeds, n, and enough answers, m: those to the collected bytes and all pieces, as one list
abbrev RunsTo : ℕ → Type 0
RunsTo n =
    (m : ℕ) (state : State) (buffer : List ℕ) (ps : List (List ℕ)) (s : List ℕ)
    → state.closed ≡ 0 → Waiting state.collected buffer
    → take state.collected buffer ++ flatten ps ≡ s → length (flatten ps) + length ps ≤ n → length s ≤ m
    → feeds n state buffer ps ≡ answers_for m s

-- one feed more
module _ (n : ℕ) (ih : RunsTo n) (m : ℕ) (state : State) (buffer p : List ℕ) (ps : List (List ℕ)) (s : List ℕ) (z : state.closed ≡ 0)
    (o : Waiting state.collected buffer) (e : take state.collected buffer ++ (p ++ flatten ps) ≡ s)
    (hn : length (p ++ flatten ps) + suc (length ps) ≤ suc n) (hm : length s ≤ m) where
  abbrev c : ℕ
  c = state.collected

  abbrev h : List ℕ
  h = on_hand c buffer p

  size : length h ≡ c + length p
  size = hand_length c buffer p o

  all : h ++ flatten ps ≡ s
  all = append_assoc (take c buffer) p (flatten ps) ∙ e

  long : length s ≡ length h + length (flatten ps)
  long = sym (ap length all) ∙ length-append h (flatten ps)

  left : length (flatten ps) + length ps ≤ n
  left = omega (arith, length-append p (flatten ps))

  accepted : feed_answer state buffer p ≡ taken h c (length p) buffer
  accepted = passed_answer state buffer p (waits_pass state buffer z o)

  -- the collected bytes and the piece wait on
  more : waits h ≡ true → feeds (suc n) state buffer (p ∷ ps) ≡ answers_for m s
  more w =
      let after = filled (length h) h buffer in
      one_feed n state buffer p ps (more_fed (length p) (length h), after) (accepted ∙ taken_more h c (length p) buffer w)
      ∙ ih m (record { collected = length h; closed = 0 }) after ps s refl (more_waits c buffer p o w)
      (ap (λ (l : List ℕ). l ++ flatten ps) (more_held c buffer p o) ∙ all)
      left
      hm

  -- the total closes the stream
  close : (k : ℕ) → length s ≤ k → waits h ≡ false → in_range (total_of h) ≡ false → feeds (suc n) state buffer (p ∷ ps) ≡ answers_for k s
  close zero hk w r = absurd (omega (arith, waits_long h w, long))
  close (suc k) hk w r =
      let b = begun h (flatten ps) w in
      let w' : waits s ≡ false = ap waits (sym all) ∙ b.0 in
      let r' : in_range (total_of s) ≡ false = ap (λ (l : List ℕ). in_range (total_of l)) (sym all) ∙ ap in_range b.1 ∙ r in
      one_feed n state buffer p ps (closing_fed (4 - c), filled 4 h buffer) (accepted ∙ taken_closing h c (length p) buffer w r)
      ∙ sym (answers_closing k s w' r')

  -- a whole report is noted, and the rest of the piece is fed again
  noted_whole : (t : ℕ) (after rest : List ℕ) → t ≤ length h → take t after ≡ take t h → rest ≡ drop (t - c) p
      → onward (feeds n) (whole_fed (take t h) (t - c), after) p ps ≡ reads (take t h) ∷ feeds n fresh_state after (rest ∷ ps)
  noted_whole t after rest fits front is =
      rw (whole_not_more (read_of (take t h)).0, length-take-le t h fits, front, is)

  cut : (k : ℕ) → length s ≤ k → waits h ≡ false → in_range (total_of h) ≡ true → feeds (suc n) state buffer (p ∷ ps) ≡ answers_for k s
  unfolding flatten
  cut zero hk w r = absurd (omega (arith, waits_long h w, long))
  cut (suc k) hk w r =
      let t = total_of h in
      let after = filled t h buffer in
      let rest = drop (t - c) p in
      let b = begun h (flatten ps) w in
      let range = in_range_lem t r in
      let fits : t ≤ length h = waits_whole h w r in
      let on : c < t = whole_ahead c buffer p o r in
      let same : total_of s ≡ t = ap total_of (sym all) ∙ b.1 in
      let w' : waits s ≡ false = ap waits (sym all) ∙ b.0 in
      let r' : in_range (total_of s) ≡ true = ap in_range same ∙ r in
      let front : take (total_of s) s ≡ take t h = ap₂ take same (sym all) ∙ take-append-le t h (flatten ps) fits in
      let back : rest ++ flatten ps ≡ drop (total_of s) s =
      sym (ap₂ drop same (sym all) ∙ drop-append-le t h (flatten ps) fits ∙ ap (λ (l : List ℕ). l ++ flatten ps) (hand_drop c buffer p o t (omega arith)))
      in
      one_feed n state buffer p ps (whole_fed (take t h) (t - c), after) (accepted ∙ taken_whole h c (length p) buffer w r)
      ∙ noted_whole t after rest fits (take_filled t h buffer fits) refl
      ∙ ap₂ (λ (x : Event) (xs : List Event). x ∷ xs)
      (ap reads (sym front))
      (ih k fresh_state after (rest ∷ ps) (drop (total_of s) s) refl (whole_waits c buffer p o w r) back
      (omega (arith, length-append p (flatten ps), length-append rest (flatten ps), length-drop (t - c) p, size))
      (omega (arith, length-drop (total_of s) s)))
      ∙ sym (answers_whole k s w' r')

  step : Beginning h → feeds (suc n) state buffer (p ∷ ps) ≡ answers_for m s
  step (waiting w) = more w
  step (closing w r) = close m hm w r
  step (whole w r) = cut m hm w r

-- no piece left: the collected bytes wait
run_none : (n m : ℕ) (state : State) (buffer s : List ℕ) → Waiting state.collected buffer → take state.collected buffer ++ [] ≡ s
    → feeds n state buffer [] ≡ answers_for m s
run_none n m state buffer s o e =
    no_feed n state buffer ∙ sym (answers_waiting m s (ap waits (sym e ∙ append-nil (take state.collected buffer)) ∙ o.wait))

run_zero : RunsTo 0
unfolding flatten
run_zero m state buffer [] s z o e hn hm = run_none 0 m state buffer s o e
run_zero m state buffer (p ∷ ps) s z o e hn hm = absurd (omega arith)

run_suc : (n : ℕ) → RunsTo n → RunsTo (suc n)
unfolding flatten
run_suc n ih m state buffer [] s z o e hn hm = run_none (suc n) m state buffer s o e
run_suc n ih m state buffer (p ∷ ps) s z o e hn hm =
    step n ih m state buffer p ps s z o e hn hm (beginning_is (on_hand state.collected buffer p))

run_from : (n : ℕ) → RunsTo n
run_from zero = run_zero
run_from (suc n) = run_suc n (run_from n)

-- the answers of a run are those of its bytes, however many feeds beyond the last are allowed
pub run_any : (n : ℕ) (buffer : List ℕ) (ps : List (List ℕ)) → length buffer ≡ largest_report → length (flatten ps) + length ps ≤ n
    → feeds n fresh_state buffer ps ≡ answers_of (flatten ps)
run_any n buffer ps e h =
    run_from n (length (flatten ps)) fresh_state buffer ps (flatten ps) refl (fresh_waits buffer e) refl h (omega arith)

pub run_answers : (buffer : List ℕ) (ps : List (List ℕ)) → length buffer ≡ largest_report → run_of buffer ps ≡ answers_of (flatten ps)
run_answers buffer ps e = run_any (length (flatten ps) + length ps) buffer ps e (omega arith)

-- from a fresh state with the rest always fed again, however a stream is cut and whatever buffer it is collected in, the list of answers
-- other than "more", each with its report's bytes, is the same up to and including the one that closes it
pub cut_anyhow : (buffer buffer' : List ℕ) (ps qs : List (List ℕ)) → length buffer ≡ largest_report → length buffer' ≡ largest_report
    → flatten ps ≡ flatten qs → run_of buffer ps ≡ run_of buffer' qs
cut_anyhow buffer buffer' ps qs e e' j = run_answers buffer ps e ∙ ap answers_of j ∙ sym (run_answers buffer' qs e')
