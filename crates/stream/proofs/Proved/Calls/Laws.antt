-- Proved: laws of a feed: each refusal comes back exactly when its check fails and every earlier one passes; more is wanted, the stream
-- closes and a report is whole exactly when they should be; what each leaves of state and buffer; and what the next feed meets.
-- Assumes nothing.
use Rattle.std.specs.Prelude.{◌≡◌, refl, ◌↔◌, ◌⊎◌, Bool, true, false, not, List, [], ◌++◌, ℕ, ◌+◌, ◌-◌, ◌≤◌, ◌<◌, leb, eqb, length, take, drop}
use Rattle.std.proofs.Common.{sym, ap, subst, ◌∙◌, inl, inr, ⊎_elim, true≢false, append-nil, add-zero, arith, take-append-drop, length-take-le, take-take, le-leb, leb-true, leb-false, eq-eqb, ne_eqb, eqb-true}
use Rattle.std.proofs.lemmas.Bool.{lt-leb, eqb-false}
use Rattle.algorithm.specs.Cases.Laws.{test}
use Rattle.algorithm.specs.Cases.Test.{yes, no}
use Rattle.algorithm.specs.Refusals.{done, wrong_size, state_not_sound, wrong_report_length}
use Rattle.algorithm.specs.Checks.{Check, first_failing, Pass, Fail, Refusing}
use Rattle.algorithm.specs.Checks.Pass.{all, and}
use Rattle.algorithm.specs.Checks.Refusing.{none}
use Rattle.algorithm.specs.Checks.Laws.{fails_number, number_fails, passes_done, done_passes, refuses, decided_work, decided_given}
use Rattle.report.specs.Layout.{largest_report}
use Rattle.report.specs.Reading.{read_of}
use Rattle.stream.specs.Stream.{Answer, More, Whole, Refused, total_of, in_range, waits, answer_to}
use Rattle.stream.proofs.Proved.Stream.Laws.{in_range_lem, waits_out, waits_done, waits_long, waits_whole, beginning_is}
use Rattle.stream.specs.Calls.{Fed, closed_state, is_closed, most_collected, number_of, refused_fed, more_fed, closing_fed, whole_fed, feed_checks, on_hand, filled, taken, feed_answer, WantsMore, Closes, MakesWhole}
use Rattle.stream.specs.Runs.{is_more}
use Rattle.stream.specs.Inside.{Beginning, Waiting}
use Rattle.stream.specs.Inside.Beginning.{waiting, closing, whole}
use Rattle.stream.proofs.Proved.Inside.Laws.{held_lost, taken_more, taken_closing, taken_whole, used_fits, filled_length, hand_length, whole_ahead, taken_leaves, more_waits, whole_waits}
use Rattle.stream.specs.declared.answers.State.{State}

-- the number of a whole report is the plain reader's, and its answer is not "more"
pub number_read : (n : ℕ) → number_of (answer_to n) ≡ n
number_read n = elim (test (eqb n done)) [
  | yes t ↦ rw t (sym (eqb-true n done t))
  | no t ↦ rw t
]

abbrev is_whole : Answer → Bool
is_whole More = false
is_whole Whole = true
is_whole (Refused n) = false

pub whole_not_more : (n : ℕ) → is_more (answer_to n) ≡ false
whole_not_more n = elim (test (eqb n done)) [
  | yes t ↦ rw t
  | no t ↦ rw t
]

-- the checks of a feed pass where the stream is open and its report on its way
module _ (state : State) (buffer : List ℕ) where
  pub feed_refusing : Refusing (feed_checks state buffer)
  feed_refusing = refuses _ _ (refuses _ _ (refuses _ _ (refuses _ _ none)))

  pub waits_pass : state.closed ≡ 0 → Waiting state.collected buffer → Pass (feed_checks state buffer)
  waits_pass z o =
      let few = o.few in
      done_passes (feed_checks state buffer) feed_refusing
      (rw (le-leb state.collected most_collected (omega arith), eq-eqb (length buffer) largest_report o.size, eq-eqb state.closed 0 z, o.wait))

  open_is : not (is_closed state) ≡ true → state.closed ≡ 0
  open_is h = elim (test (eqb state.closed 0)) [
    | yes t ↦ eqb-true state.closed 0 t
    | no t ↦ absurd (true≢false (sym (rw t at h)))
  ]

  pub pass_waits : Pass (feed_checks state buffer) → (state.closed ≡ 0) × Waiting state.collected buffer
  pass_waits (and f (and e (and w (and h all)))) =
      let z = open_is h in
      let few = leb-true state.collected most_collected f in
      (z, record { few = omega arith; size = eqb-true (length buffer) largest_report e; wait = rw (eq-eqb state.closed 0 z) at w })

-- each way in which the checks come out
module _ (state : State) (buffer : List ℕ) where
  many_fails : most_collected < state.collected → Fail (feed_checks state buffer) state_not_sound
  many_fails h = number_fails (feed_checks state buffer) state_not_sound (λ z. omega arith) (rw (lt-leb state.collected most_collected h))

  module _ (few : state.collected ≤ most_collected) where
    other_fails : (length buffer ≡ largest_report → ⊥) → Fail (feed_checks state buffer) wrong_size
    other_fails h =
        number_fails (feed_checks state buffer) wrong_size (λ z. omega arith)
        (rw (le-leb state.collected most_collected few, ne_eqb (length buffer) largest_report h))

    module _ (size : length buffer ≡ largest_report) where
      shut_fails : (state.closed ≡ 0 → ⊥) → Fail (feed_checks state buffer) wrong_report_length
      shut_fails h =
          number_fails (feed_checks state buffer) wrong_report_length (λ z. omega arith)
          (rw (le-leb state.collected most_collected few, eq-eqb (length buffer) largest_report size, ne_eqb state.closed 0 h))

      lost_fails : state.closed ≡ 0 → waits (take state.collected buffer) ≡ false → Fail (feed_checks state buffer) state_not_sound
      lost_fails z h =
          number_fails (feed_checks state buffer) state_not_sound (λ n. omega arith)
          (rw (le-leb state.collected most_collected few, eq-eqb (length buffer) largest_report size, eq-eqb state.closed 0 z, h))

data ChecksCase (state : State) (buffer : List ℕ) : Type 0 where
  many : most_collected < state.collected → ChecksCase state buffer
  other : state.collected ≤ most_collected → (length buffer ≡ largest_report → ⊥) → ChecksCase state buffer
  shut : state.collected ≤ most_collected → length buffer ≡ largest_report → (state.closed ≡ 0 → ⊥) → ChecksCase state buffer
  lost : state.collected ≤ most_collected → length buffer ≡ largest_report → state.closed ≡ 0 → waits (take state.collected buffer) ≡ false
      → ChecksCase state buffer
  good : Pass (feed_checks state buffer) → ChecksCase state buffer

checked_is : (state : State) (buffer : List ℕ) → ChecksCase state buffer
checked_is state buffer = elim (test (leb state.collected most_collected)) [
  | no f ↦ many (leb-false state.collected most_collected f)
  | yes f ↦
      let few = leb-true state.collected most_collected f in
      elim (test (eqb (length buffer) largest_report)) [
        | no l ↦ other few (eqb-false (length buffer) largest_report l)
        | yes l ↦
            let size = eqb-true (length buffer) largest_report l in
            elim (test (eqb state.closed 0)) [
              | no c ↦ shut few size (eqb-false state.closed 0 c)
              | yes c ↦
                  let z = eqb-true state.closed 0 c in
                  elim (test (waits (take state.collected buffer))) [
                    | no w ↦ lost few size z w
                    | yes w ↦ good (waits_pass state buffer z (record { few = omega arith; size = size; wait = w }))
                  ]
            ]
      ]
]

module _ (state : State) (buffer piece : List ℕ) where
  abbrev checks : List Check
  checks = feed_checks state buffer

  abbrev hand : List ℕ
  hand = on_hand state.collected buffer piece

  abbrev fed : Fed × List ℕ
  fed = feed_answer state buffer piece

  -- where a check fails, nothing is used or written and the state comes back; where none does, bytes are taken in
  refused_answer : (n : ℕ) → (n ≡ done → ⊥) → Fail checks n → fed ≡ (refused_fed state n, buffer)
  unfolding feed_answer
  refused_answer n z f =
      decided_given (taken hand state.collected (length piece) buffer) (refused_fed state (first_failing checks), buffer) z f
      ∙ rw (fails_number f)

  pub passed_answer : Pass checks → fed ≡ taken hand state.collected (length piece) buffer
  unfolding feed_answer
  passed_answer p = decided_work (taken hand state.collected (length piece) buffer) (refused_fed state (first_failing checks), buffer) p

  -- what comes back where more is wanted, where the stream closes, and where a report is whole
  pub more_answer : WantsMore state buffer piece → fed ≡ (more_fed (length piece) (length hand), filled (length hand) hand buffer)
  more_answer h = passed_answer h.passed ∙ taken_more hand state.collected (length piece) buffer h.few

  pub closes_answer : Closes state buffer piece → fed ≡ (closing_fed (4 - state.collected), filled 4 hand buffer)
  closes_answer h =
      passed_answer h.passed ∙ taken_closing hand state.collected (length piece) buffer (waits_out hand h.four h.out) h.out

  pub whole_answer : MakesWhole state buffer piece
      → fed ≡ (whole_fed (take (total_of hand) hand) (total_of hand - state.collected), filled (total_of hand) hand buffer)
  whole_answer h =
      let least = (in_range_lem (total_of hand) h.range).0 in
      let w = waits_done hand (omega (arith, h.enough)) h.enough in
      passed_answer h.passed ∙ taken_whole hand state.collected (length piece) buffer w h.range

  -- and one of the four it is
  data FeedCase : Type 0 where
    refused : (n : ℕ) → (n ≡ done → ⊥) → Fail checks n → FeedCase
    wants : WantsMore state buffer piece → FeedCase
    ends : Closes state buffer piece → FeedCase
    makes : MakesWhole state buffer piece → FeedCase

  one_case : FeedCase
  one_case = elim (test (eqb (first_failing checks) done)) [
    | no t ↦
        let z = eqb-false (first_failing checks) done t in
        refused (first_failing checks) z (number_fails checks (first_failing checks) z refl)
    | yes t ↦ by (done_passes checks (feed_refusing state buffer) (eqb-true (first_failing checks) done t)) (beginning_is hand)
  ]
    where
      by : Pass checks → Beginning hand → FeedCase
      by p (waiting w) = wants (record { passed = p; few = w })
      by p (closing w r) = ends (record { passed = p; four = waits_long hand w; out = r })
      by p (whole w r) = makes (record { passed = p; range = r; enough = waits_whole hand w r })

  -- the parts of what comes back: the answer, its number, the length and the bytes used
  answer_of_lem : {x : Fed × List ℕ} → fed ≡ x → fed.0.answer ≡ x.0.answer
  answer_of_lem e = ap (λ (y : Fed × List ℕ). y.0.answer) e

  number_of_lem : {x : Fed × List ℕ} → fed ≡ x → number_of fed.0.answer ≡ number_of x.0.answer
  number_of_lem e = ap number_of (answer_of_lem e)

  length_of : {x : Fed × List ℕ} → fed ≡ x → fed.0.length ≡ x.0.length
  length_of e = ap (λ (y : Fed × List ℕ). y.0.length) e

  used_of : {x : Fed × List ℕ} → fed ≡ x → fed.0.used ≡ x.0.used
  used_of e = ap (λ (y : Fed × List ℕ). y.0.used) e

  -- the length of a whole report is its total
  whole_length : (h : MakesWhole state buffer piece) → fed.0.length ≡ total_of hand
  whole_length h = length_of (whole_answer h) ∙ length-take-le (total_of hand) hand h.enough

  -- a feed is refused with a number, uses nothing, writes nothing and hands the state back, exactly when the number's check fails and
  -- every earlier one passes
  pub feed_refused : (n : ℕ) → (n ≡ done → ⊥) → fed ≡ (refused_fed state n, buffer) ↔ Fail checks n
  feed_refused n z = (from one_case, refused_answer n z)
    where
      from : FeedCase → fed ≡ (refused_fed state n, buffer) → Fail checks n
      from (refused m y f) e =
          subst (Fail checks) (ap (λ (x : Fed × List ℕ). number_of x.0.answer) (sym (refused_answer m y f) ∙ e)) f
      from (wants h) e = absurd (true≢false (ap (λ (x : Fed × List ℕ). is_more x.0.answer) (sym (more_answer h) ∙ e)))
      from (ends h) e =
          let z = (pass_waits state buffer h.passed).0 in
          let c : 1 ≡ state.closed = ap (λ (x : Fed × List ℕ). x.0.state.closed) (sym (closes_answer h) ∙ e) in
          absurd (omega arith)
      from (makes h) e =
          let l : total_of hand ≡ 0 = sym (whole_length h) ∙ ap (λ (x : Fed × List ℕ). x.0.length) e in
          let least = (in_range_lem (total_of hand) h.range).0 in
          absurd (omega arith)

  -- in plain words: a feed is refused with 10 exactly where more than 3,980 bytes are collected, or where the buffer has its size, the
  -- stream is open, and at least four bytes are collected whose total is out of range or already reached
  pub feed_not_sound : fed ≡ (refused_fed state state_not_sound, buffer)
      ↔ ((most_collected < state.collected)
      ⊎ ((state.collected ≤ most_collected)
      × (length buffer ≡ largest_report)
      × (state.closed ≡ 0)
      × (4 ≤ state.collected)
      × ((in_range (total_of buffer) ≡ false) ⊎ (total_of buffer ≤ state.collected))))
  feed_not_sound = (
    λ e. from (checked_is state buffer) (fails_number ((feed_refused state_not_sound (λ z. omega arith)).0 e)),
    λ h. (feed_refused state_not_sound (λ z. omega arith)).1
        (⊎_elim (many_fails state buffer)
        (λ p. lost_fails state buffer p.0 p.1 p.2 ((held_lost state.collected buffer (omega (arith, p.0, p.1))).1 (p.3, p.4)))
        h),
  )
    where
      from : ChecksCase state buffer → first_failing checks ≡ state_not_sound
          → (most_collected < state.collected)
          ⊎ ((state.collected ≤ most_collected)
          × (length buffer ≡ largest_report)
          × (state.closed ≡ 0)
          × (4 ≤ state.collected)
          × ((in_range (total_of buffer) ≡ false) ⊎ (total_of buffer ≤ state.collected)))
      from (many h) e = inl h
      from (other few h) e = absurd (omega (arith, fails_number (other_fails state buffer few h)))
      from (shut few size h) e = absurd (omega (arith, fails_number (shut_fails state buffer few size h)))
      from (lost few size z h) e =
          let l = (held_lost state.collected buffer (omega (arith, few, size))).0 h in
          inr (few, size, z, l.0, l.1)
      from (good p) e = absurd (omega (arith, passes_done p))

  -- with 6 exactly where no more are collected and the buffer has another size
  pub feed_wrong_size : fed ≡ (refused_fed state wrong_size, buffer)
      ↔ ((state.collected ≤ most_collected) × (length buffer ≡ largest_report → ⊥))
  feed_wrong_size = (
    λ e. from (checked_is state buffer) (fails_number ((feed_refused wrong_size (λ z. omega arith)).0 e)),
    λ h. (feed_refused wrong_size (λ z. omega arith)).1 (other_fails state buffer h.0 h.1),
  )
    where
      from : ChecksCase state buffer → first_failing checks ≡ wrong_size → (state.collected ≤ most_collected) × (length buffer ≡ largest_report → ⊥)
      from (many h) e = absurd (omega (arith, fails_number (many_fails state buffer h)))
      from (other few h) e = (few, h)
      from (shut few size h) e = absurd (omega (arith, fails_number (shut_fails state buffer few size h)))
      from (lost few size z h) e = absurd (omega (arith, fails_number (lost_fails state buffer few size z h)))
      from (good p) e = absurd (omega (arith, passes_done p))

  -- and with 11 exactly where both are right and the stream is closed
  pub feed_closed : fed ≡ (refused_fed state wrong_report_length, buffer)
      ↔ ((state.collected ≤ most_collected) × (length buffer ≡ largest_report) × (state.closed ≡ 0 → ⊥))
  feed_closed = (
    λ e. from (checked_is state buffer) (fails_number ((feed_refused wrong_report_length (λ z. omega arith)).0 e)),
    λ h. (feed_refused wrong_report_length (λ z. omega arith)).1 (shut_fails state buffer h.0 h.1 h.2),
  )
    where
      from : ChecksCase state buffer → first_failing checks ≡ wrong_report_length
          → (state.collected ≤ most_collected) × (length buffer ≡ largest_report) × (state.closed ≡ 0 → ⊥)
      from (many h) e = absurd (omega (arith, fails_number (many_fails state buffer h)))
      from (other few h) e = absurd (omega (arith, fails_number (other_fails state buffer few h)))
      from (shut few size h) e = (few, size, h)
      from (lost few size z h) e = absurd (omega (arith, fails_number (lost_fails state buffer few size z h)))
      from (good p) e = absurd (omega (arith, passes_done p))

  -- the answer is "more" exactly where none fails and the bytes on hand wait
  pub feed_more : fed.0.answer ≡ More ↔ WantsMore state buffer piece
  feed_more = (from one_case, λ h. answer_of_lem (more_answer h))
    where
      from : FeedCase → fed.0.answer ≡ More → WantsMore state buffer piece
      from (refused m y f) e = absurd (true≢false (sym (ap is_more (sym (answer_of_lem (refused_answer m y f)) ∙ e))))
      from (wants h) e = h
      from (ends h) e = absurd (true≢false (sym (ap is_more (sym (answer_of_lem (closes_answer h)) ∙ e))))
      from (makes h) e =
          absurd (true≢false (sym (sym (whole_not_more (read_of (take (total_of hand) hand)).0) ∙ ap is_more (sym (answer_of_lem (whole_answer h)) ∙ e))))

  -- an open stream is closed by a feed exactly where none fails, four bytes are on hand and their total is out of range
  pub feed_closes : (state.closed ≡ 0) × (is_closed fed.0.state ≡ true) ↔ Closes state buffer piece
  feed_closes = (λ e. from one_case e.0 e.1, λ h. ((pass_waits state buffer h.passed).0, rw (closes_answer h)))
    where
      from : FeedCase → state.closed ≡ 0 → is_closed fed.0.state ≡ true → Closes state buffer piece
      from (refused m y f) z e = absurd (true≢false (sym (rw (refused_answer m y f, eq-eqb state.closed 0 z) at e)))
      from (wants h) z e = absurd (true≢false (sym (rw (more_answer h) at e)))
      from (ends h) z e = h
      from (makes h) z e = absurd (true≢false (sym (rw (whole_answer h) at e)))

  -- a length above 0 comes back exactly where none fails and a whole report is on hand
  pub feed_whole : 0 < fed.0.length ↔ MakesWhole state buffer piece
  feed_whole = (from one_case, λ h. let least = (in_range_lem (total_of hand) h.range).0 in omega (arith, whole_length h))
    where
      from : FeedCase → 0 < fed.0.length → MakesWhole state buffer piece
      from (refused m y f) l = absurd (omega (arith, length_of (refused_answer m y f)))
      from (wants h) l = absurd (omega (arith, length_of (more_answer h)))
      from (ends h) l = absurd (omega (arith, length_of (closes_answer h)))
      from (makes h) l = h

  -- no feed is refused with 0
  pub feed_never_zero : fed.0.answer ≡ Refused done → ⊥
  feed_never_zero = from one_case
    where
      from : FeedCase → fed.0.answer ≡ Refused done → ⊥
      from (refused m y f) e = y (sym (number_of_lem (refused_answer m y f)) ∙ ap number_of e)
      from (wants h) e = true≢false (ap is_more (sym (answer_of_lem (more_answer h)) ∙ e))
      from (ends h) e =
          let n : wrong_report_length ≡ done = sym (number_of_lem (closes_answer h)) ∙ ap number_of e in
          omega arith
      from (makes h) e =
          let k = (read_of (take (total_of hand) hand)).0 in
          let a : answer_to k ≡ Refused done = sym (answer_of_lem (whole_answer h)) ∙ e in
          let z : k ≡ done = sym (number_read k) ∙ ap number_of a in
          true≢false (ap is_whole (sym (ap answer_to z) ∙ a))

  -- so C's number and length tell the answers apart: "more" is 0 with length 0, and a whole report that the reader lets pass is 0 with
  -- its length
  pub shown_more : (number_of fed.0.answer ≡ done) × (fed.0.length ≡ 0) ↔ fed.0.answer ≡ More
  shown_more = (
    λ e. from one_case e.0 e.1,
    λ e. (ap number_of e, length_of (more_answer (feed_more.0 e))),
  )
    where
      from : FeedCase → number_of fed.0.answer ≡ done → fed.0.length ≡ 0 → fed.0.answer ≡ More
      from (refused m y f) n l = absurd (y (sym (number_of_lem (refused_answer m y f)) ∙ n))
      from (wants h) n l = feed_more.1 h
      from (ends h) n l =
          let c : wrong_report_length ≡ done = sym (number_of_lem (closes_answer h)) ∙ n in
          absurd (omega arith)
      from (makes h) n l =
          let least = (in_range_lem (total_of hand) h.range).0 in
          absurd (omega (arith, whole_length h, l))

  pub shown_whole : (number_of fed.0.answer ≡ done) × (0 < fed.0.length) ↔ fed.0.answer ≡ Whole
  shown_whole = (λ e. to e.0 (feed_whole.0 e.1), λ e. (ap number_of e, from one_case e))
    where
      to : number_of fed.0.answer ≡ done → MakesWhole state buffer piece → fed.0.answer ≡ Whole
      to n h =
          let k = (read_of (take (total_of hand) hand)).0 in
          let z : k ≡ done = sym (number_read k) ∙ sym (number_of_lem (whole_answer h)) ∙ n in
          answer_of_lem (whole_answer h) ∙ ap answer_to z

      from : FeedCase → fed.0.answer ≡ Whole → 0 < fed.0.length
      from (refused m y f) e = absurd (true≢false (sym (ap is_whole (sym (answer_of_lem (refused_answer m y f)) ∙ e))))
      from (wants h) e = absurd (true≢false (sym (ap is_whole (sym (answer_of_lem (more_answer h)) ∙ e))))
      from (ends h) e = absurd (true≢false (sym (ap is_whole (sym (answer_of_lem (closes_answer h)) ∙ e))))
      from (makes h) e = feed_whole.1 h

  -- an empty piece leaves a stream that no check refuses as it was, and more is wanted
  pub feed_empty : Pass checks → piece ≡ [] → fed ≡ (more_fed 0 state.collected, buffer)
  feed_empty p e =
      let c = state.collected in
      let o = (pass_waits state buffer p).1 in
      let is : hand ≡ take c buffer = ap (λ (l : List ℕ). take c buffer ++ l) e ∙ append-nil (take c buffer) in
      let n : length hand ≡ c = ap length is ∙ length-take-le c buffer (omega (arith, o.few, o.size)) in
      let back : filled (length hand) hand buffer ≡ buffer =
      (λ i. take (n i) (is i) ++ drop (n i) buffer)
      ∙ ap (λ (l : List ℕ). l ++ drop c buffer) (take-take c c buffer (omega arith))
      ∙ take-append-drop c buffer
      in
      more_answer (record { passed = p; few = ap waits is ∙ o.wait })
      ∙ (λ i. (more_fed (length (e i)) (n i), back i))

  -- a feed uses no more bytes than the piece has
  pub feed_used : fed.0.used ≤ length piece
  feed_used = from one_case
    where
      passed : Pass checks → fed.0.used ≤ length piece
      passed p =
          let o = (pass_waits state buffer p).1 in
          omega (arith, used_of (passed_answer p), used_fits hand state.collected (length piece) buffer (hand_length state.collected buffer piece o))

      from : FeedCase → fed.0.used ≤ length piece
      from (refused n y f) = omega (arith, used_of (refused_answer n y f))
      from (wants h) = passed h.passed
      from (ends h) = passed h.passed
      from (makes h) = passed h.passed

  -- one that makes a report whole uses a byte at least
  pub whole_uses : MakesWhole state buffer piece → 0 < fed.0.used
  whole_uses h =
      let o = (pass_waits state buffer h.passed).1 in
      omega (arith, used_of (whole_answer h), whole_ahead state.collected buffer piece o h.range)

  -- the bytes used are left after the collected ones, and every other byte of the buffer stays, refused or not
  pub feed_leaves : fed.1 ≡ take state.collected buffer ++ (take fed.0.used piece ++ drop (state.collected + fed.0.used) buffer)
  feed_leaves = from one_case
    where
      Left : Fed × List ℕ → Type 0
      Left x = x.1 ≡ take state.collected buffer ++ (take x.0.used piece ++ drop (state.collected + x.0.used) buffer)

      passed : Pass checks → Left fed
      passed p = taken_leaves state.collected buffer piece (pass_waits state buffer p).1 fed (passed_answer p)

      from : FeedCase → Left fed
      from (refused n y f) =
          subst Left (sym (refused_answer n y f)) (rw add-zero (sym (take-append-drop state.collected buffer)))
      from (wants h) = passed h.passed
      from (ends h) = passed h.passed
      from (makes h) = passed h.passed

  -- what the next feed meets after one that no check refused: it is refused by none either, or the stream is closed
  pub feed_keeps : Pass checks → Pass (feed_checks fed.0.state fed.1) ⊎ Fail (feed_checks fed.0.state fed.1) wrong_report_length
  feed_keeps p = from (beginning_is hand)
    where
      o : Waiting state.collected buffer
      o = (pass_waits state buffer p).1

      Kept : Fed × List ℕ → Type 0
      Kept x = Pass (feed_checks x.0.state x.1) ⊎ Fail (feed_checks x.0.state x.1) wrong_report_length

      from : Beginning hand → Kept fed
      from (waiting w) =
          subst Kept (sym (passed_answer p ∙ taken_more hand state.collected (length piece) buffer w))
          (inl (waits_pass _ _ refl (more_waits state.collected buffer piece o w)))
      from (closing w r) =
          let size = filled_length 4 hand buffer (waits_long hand w) (omega (arith, o.size)) ∙ o.size in
          subst Kept (sym (passed_answer p ∙ taken_closing hand state.collected (length piece) buffer w r))
          (inr (number_fails (feed_checks closed_state (filled 4 hand buffer)) wrong_report_length (λ z. omega arith) (rw (eq-eqb (length (filled 4 hand buffer)) largest_report size))))
      from (whole w r) =
          subst Kept (sym (passed_answer p ∙ taken_whole hand state.collected (length piece) buffer w r))
          (inl (waits_pass _ _ refl (whole_waits state.collected buffer piece o w r)))
