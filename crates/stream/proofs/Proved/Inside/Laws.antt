-- Proved: laws of what a feed takes in: the bytes on hand of an open stream, written over the beginning of its buffer. Assumes nothing.
use Rattle.std.specs.Prelude.{◌≡◌, ◌↔◌, ◌⊎◌, true, false, List, [], ◌++◌, ℕ, ◌+◌, ◌-◌, ◌≤◌, ◌<◌, ltb, length, take, drop}
use Rattle.std.proofs.Common.{sym, ap, ap₂, ◌∙◌, inl, inr, ⊎_elim, true≢false, append_assoc, arith, length-append, length-drop, take-append-drop, take_at, drop_at, length-take-le, drop-drop, ltb-true, ltb-false}
use Rattle.std.proofs.Math.Seq.{take-length, take-append-add, drop-append-add}
use Rattle.algorithm.specs.Cases.Laws.{test}
use Rattle.algorithm.specs.Cases.Test.{yes, no}
use Rattle.report.specs.Layout.{largest_report}
use Rattle.stream.specs.Stream.{total_of, in_range, waits}
use Rattle.stream.proofs.Proved.Stream.Laws.{in_range_lem, waits_short, waits_out, waits_done, waits_open, waits_long, waits_whole, waits_few, beginning_is, total_front}
use Rattle.stream.specs.Calls.{Fed, more_fed, closing_fed, whole_fed, filled, on_hand, taken}
use Rattle.stream.specs.Inside.{Beginning, Waiting}
use Rattle.stream.specs.Inside.Beginning.{waiting, closing, whole}

-- what is taken in, by what the bytes on hand begin with
module _ (s : List ℕ) (c n : ℕ) (b : List ℕ) where
  pub taken_more : waits s ≡ true → taken s c n b ≡ (more_fed n (length s), filled (length s) s b)
  taken_more w = rw w

  pub taken_closing : waits s ≡ false → in_range (total_of s) ≡ false → taken s c n b ≡ (closing_fed (4 - c), filled 4 s b)
  taken_closing w r = rw (w, r)

  pub taken_whole : waits s ≡ false → in_range (total_of s) ≡ true
      → taken s c n b ≡ (whole_fed (take (total_of s) s) (total_of s - c), filled (total_of s) s b)
  taken_whole w r = rw (w, r)

-- no more bytes are used than the piece has
pub used_fits : (s : List ℕ) (c n : ℕ) (b : List ℕ) → length s ≡ c + n → (taken s c n b).0.used ≤ n
used_fits s c n b e = by (beginning_is s)
  where
    by : Beginning s → (taken s c n b).0.used ≤ n
    by (waiting w) = rw w (omega arith)
    by (closing w r) = rw (w, r) (omega (arith, waits_long s w))
    by (whole w r) = rw (w, r) (omega (arith, waits_whole s w r))

-- bytes over the beginning of a buffer
module _ (n : ℕ) (s buffer : List ℕ) (h : n ≤ length s) where
  pub take_filled : take n (filled n s buffer) ≡ take n s
  take_filled = take_at (take n s) (drop n buffer) n (length-take-le n s h)

  pub filled_length : n ≤ length buffer → length (filled n s buffer) ≡ length buffer
  filled_length k = omega (arith, length-append (take n s) (drop n buffer), length-take-le n s h, length-drop n buffer)

  -- and more of the same bytes over it again
  pub filled_again : (k : ℕ) → n ≤ k → filled k s (filled n s buffer) ≡ filled k s buffer
  filled_again k l =
      let e : k ≡ n + (k - n) = omega arith in
      let d : drop k (filled n s buffer) ≡ drop k buffer =
      ap (λ (i : ℕ). drop i (filled n s buffer)) e
      ∙ sym (drop-drop (k - n) n (filled n s buffer))
      ∙ ap (drop (k - n)) (drop_at (take n s) (drop n buffer) n (length-take-le n s h))
      ∙ drop-drop (k - n) n buffer
      ∙ ap (λ (i : ℕ). drop i buffer) (sym e)
      in
      ap (λ (r : List ℕ). take k s ++ r) d

-- collected bytes do not wait exactly where there are at least four, and their total is out of range or already reached
pub held_lost : (c : ℕ) (b : List ℕ) → c ≤ length b
    → waits (take c b) ≡ false ↔ ((4 ≤ c) × ((in_range (total_of b) ≡ false) ⊎ (total_of b ≤ c)))
held_lost c b h = (to, λ p. from p.0 p.1)
  where
    n : length (take c b) ≡ c
    n = length-take-le c b h

    same : 4 ≤ c → total_of (take c b) ≡ total_of b
    same four = sym (total_front (take c b) (drop c b) (omega (arith, n))) ∙ ap total_of (take-append-drop c b)

    to : waits (take c b) ≡ false → (4 ≤ c) × ((in_range (total_of b) ≡ false) ⊎ (total_of b ≤ c))
    to w =
        let four : 4 ≤ c = omega (arith, waits_long (take c b) w, n) in
        let e = same four in
        elim (test (in_range (total_of b))) [
          | yes r ↦ (four, inr (omega (arith, waits_whole (take c b) w (ap in_range e ∙ r), e, n)))
          | no r ↦ (four, inl r)
        ]

    from : 4 ≤ c → (in_range (total_of b) ≡ false) ⊎ (total_of b ≤ c) → waits (take c b) ≡ false
    from four =
        ⊎_elim (λ r. waits_out (take c b) (omega (arith, n)) (ap in_range (same four) ∙ r))
        (λ l. waits_done (take c b) (omega (arith, n)) (omega (arith, same four, n)))

-- a fresh state waits
pub fresh_waits : (buffer : List ℕ) → length buffer ≡ largest_report → Waiting 0 buffer
fresh_waits buffer e = record { few = omega arith; size = e; wait = waits_short [] (omega arith) }

-- an open stream and a piece
module _ (collected : ℕ) (buffer piece : List ℕ) (o : Waiting collected buffer) where
  pub held_length : length (take collected buffer) ≡ collected
  held_length = length-take-le collected buffer (omega (arith, o.few, o.size))

  pub hand_length : length (on_hand collected buffer piece) ≡ collected + length piece
  hand_length = length-append (take collected buffer) piece ∙ ap (λ (n : ℕ). n + length piece) held_length

  -- what is left of the bytes on hand after some place is left of the piece
  pub hand_drop : (n : ℕ) → collected ≤ n → drop n (on_hand collected buffer piece) ≡ drop (n - collected) piece
  hand_drop n h =
      let e : n ≡ length (take collected buffer) + (n - collected) = omega (arith, held_length) in
      ap (λ (i : ℕ). drop i (on_hand collected buffer piece)) e ∙ drop-append-add (take collected buffer) piece (n - collected)

  -- four collected bytes name the total of all on hand, which is in range and ahead
  pub hand_total : 4 ≤ collected → total_of (on_hand collected buffer piece) ≡ total_of (take collected buffer)
  hand_total h = total_front (take collected buffer) piece (omega (arith, held_length))

  pub held_total : 4 ≤ collected → (in_range (total_of (take collected buffer)) ≡ true) × (collected < total_of (take collected buffer))
  held_total h =
      let p = waits_open (take collected buffer) o.wait (omega (arith, held_length)) in
      (p.0, omega (arith, p.1, held_length))

  -- a report that is whole was not so before the piece
  pub whole_ahead : in_range (total_of (on_hand collected buffer piece)) ≡ true → collected < total_of (on_hand collected buffer piece)
  whole_ahead r = elim (test (ltb collected 4)) [
    | yes t ↦ omega (arith, ltb-true collected 4 t, (in_range_lem (total_of (on_hand collected buffer piece)) r).0)
    | no t ↦ let h : 4 ≤ collected = ltb-false collected 4 t in omega (arith, hand_total h, (held_total h).1)
  ]

  -- a total that closes the stream was not in before the piece
  pub closing_ahead : in_range (total_of (on_hand collected buffer piece)) ≡ false → collected < 4
  closing_ahead r = elim (test (ltb collected 4)) [
    | yes t ↦ ltb-true collected 4 t
    | no t ↦
        let h : 4 ≤ collected = ltb-false collected 4 t in
        absurd (true≢false (sym (held_total h).0 ∙ ap in_range (sym (hand_total h)) ∙ r))
  ]

  -- bytes on hand over the buffer, as the collected ones, those used of the piece, and what stood after them
  filled_parts : (n k : ℕ) → n ≡ collected + k
      → filled n (on_hand collected buffer piece) buffer ≡ take collected buffer ++ (take k piece ++ drop (collected + k) buffer)
  filled_parts n k h =
      let e : n ≡ length (take collected buffer) + k = omega (arith, held_length) in
      ap₂ (λ (x y : List ℕ). x ++ y)
      (ap (λ (i : ℕ). take i (on_hand collected buffer piece)) e ∙ take-append-add (take collected buffer) piece k)
      (ap (λ (i : ℕ). drop i buffer) h)
      ∙ append_assoc (take collected buffer) (take k piece) (drop (collected + k) buffer)

  -- the bytes used, and no others, are written after the collected ones
  pub taken_leaves : (r : Fed × List ℕ) → r ≡ taken (on_hand collected buffer piece) collected (length piece) buffer
      → r.1 ≡ take collected buffer ++ (take r.0.used piece ++ drop (collected + r.0.used) buffer)
  taken_leaves r is = by (beginning_is s)
    where
      s : List ℕ
      s = on_hand collected buffer piece

      Left : Fed × List ℕ → Type 0
      Left x = x.1 ≡ take collected buffer ++ (take x.0.used piece ++ drop (collected + x.0.used) buffer)

      by : Beginning s → Left r
      by (waiting w) = rw (is, w) (filled_parts (length s) (length piece) hand_length)
      by (closing w z) = rw (is, w, z) (filled_parts 4 (4 - collected) (omega (arith, closing_ahead z)))
      by (whole w z) = rw (is, w, z) (filled_parts (total_of s) (total_of s - collected) (omega (arith, whole_ahead z)))

  -- bytes that wait on, once they are collected
  pub more_held : take (length (on_hand collected buffer piece)) (filled (length (on_hand collected buffer piece)) (on_hand collected buffer piece) buffer)
      ≡ on_hand collected buffer piece
  more_held =
      let s = on_hand collected buffer piece in
      take_filled (length s) s buffer (omega arith) ∙ take-length s

  pub more_waits : waits (on_hand collected buffer piece) ≡ true
      → Waiting (length (on_hand collected buffer piece)) (filled (length (on_hand collected buffer piece)) (on_hand collected buffer piece) buffer)
  more_waits w =
      let s = on_hand collected buffer piece in
      let few = waits_few s w in
      record {
        few = few;
        size = filled_length (length s) s buffer (omega arith) (omega (arith, o.size)) ∙ o.size;
        wait = ap waits more_held ∙ w;
      }

  -- a whole report leaves a fresh state
  pub whole_waits : waits (on_hand collected buffer piece) ≡ false → in_range (total_of (on_hand collected buffer piece)) ≡ true
      → Waiting 0 (filled (total_of (on_hand collected buffer piece)) (on_hand collected buffer piece) buffer)
  whole_waits w r =
      let s = on_hand collected buffer piece in
      let top = (in_range_lem (total_of s) r).1 in
      fresh_waits (filled (total_of s) s buffer)
      (filled_length (total_of s) s buffer (waits_whole s w r) (omega (arith, o.size)) ∙ o.size)
