-- Proved: laws of what bytes begin with, told by lengths and the same of every longer list once it is decided, and of the answers to bytes.
-- Assumes nothing.
use Rattle.std.specs.Prelude.{◌≡◌, refl, true, false, List, [], ◌∷◌, ◌++◌, ℕ, zero, suc, ◌+◌, ◌≤◌, ◌<◌, leb, ltb, length, take, drop}
use Rattle.std.proofs.Common.{sym, le-leb, ap, ◌∙◌, true≢false, arith, length-append, length-drop}
use Rattle.std.proofs.Math.Bool.{and-false, or-true}
use Rattle.std.proofs.lemmas.Bool.{lt-leb}
use Rattle.std.proofs.lemmas.List.{take-append-le}
use borrow.Author.Tests.{leb-true, lt-ltb, le-ltb, ltb-true, ltb-false}
use Rattle.octets.specs.Number.{number}
use Rattle.octets.specs.Every.Laws.{and_parts}
use Rattle.algorithm.specs.Cases.Laws.{test}
use Rattle.algorithm.specs.Cases.Test.{yes, no}
use Rattle.report.specs.Layout.{smallest_report, largest_report}
use Rattle.stream.specs.Stream.{total_of, in_range, waits, by_beginning, Event, closes, reads, answers_for, answers_of}
use Rattle.stream.specs.Inside.{Beginning}
use Rattle.stream.specs.Inside.Beginning.{waiting, closing, whole}

-- a total in range
module _ (t : ℕ) where
  pub in_range_lem : in_range t ≡ true → (smallest_report ≤ t) × (t ≤ largest_report)
  unfolding in_range
  in_range_lem e =
      let p = and_parts (leb smallest_report t) (leb t largest_report) e in
      (leb-true smallest_report t p.0, leb-true t largest_report p.1)

  pub range_low : t < smallest_report → in_range t ≡ false
  unfolding in_range
  range_low h = rw (lt-leb smallest_report t h)

  pub range_from : smallest_report ≤ t → in_range t ≡ leb t largest_report
  unfolding in_range
  range_from h = rw (le-leb smallest_report t h)

-- when bytes wait, and when not
module _ (s : List ℕ) where
  pub waits_short : length s < 4 → waits s ≡ true
  unfolding waits
  waits_short h = rw (lt-ltb (length s) 4 h)

  pub waits_below : in_range (total_of s) ≡ true → length s < total_of s → waits s ≡ true
  unfolding waits
  waits_below r h = rw (r, lt-ltb (length s) (total_of s) h) (or-true (ltb (length s) 4))

  pub waits_out : 4 ≤ length s → in_range (total_of s) ≡ false → waits s ≡ false
  unfolding waits
  waits_out h r = rw (le-ltb (length s) 4 h, r)

  pub waits_in : 4 ≤ length s → in_range (total_of s) ≡ true → waits s ≡ ltb (length s) (total_of s)
  unfolding waits
  waits_in h r = rw (le-ltb (length s) 4 h, r)

  pub waits_done : 4 ≤ length s → total_of s ≤ length s → waits s ≡ false
  unfolding waits
  waits_done h l = rw (le-ltb (length s) 4 h, le-ltb (length s) (total_of s) l) (and-false (in_range (total_of s)))

  pub waits_open : waits s ≡ true → 4 ≤ length s → (in_range (total_of s) ≡ true) × (length s < total_of s)
  unfolding waits
  waits_open w h =
      let p = and_parts (in_range (total_of s)) (ltb (length s) (total_of s)) (rw (le-ltb (length s) 4 h) at w) in
      (p.0, ltb-true (length s) (total_of s) p.1)

  pub waits_long : waits s ≡ false → 4 ≤ length s
  waits_long w = elim (test (ltb (length s) 4)) [
    | yes t ↦ absurd (true≢false (sym (waits_short (ltb-true (length s) 4 t)) ∙ w))
    | no t ↦ ltb-false (length s) 4 t
  ]

  pub waits_whole : waits s ≡ false → in_range (total_of s) ≡ true → total_of s ≤ length s
  waits_whole w r = ltb-false (length s) (total_of s) (sym (waits_in (waits_long w) r) ∙ w)

  -- bytes that wait are fewer than the largest report has
  pub waits_few : waits s ≡ true → length s < largest_report
  waits_few w = elim (test (ltb (length s) 4)) [
    | yes t ↦ omega (arith, ltb-true (length s) 4 t)
    | no t ↦
        let p = waits_open w (ltb-false (length s) 4 t) in
        omega (arith, p.1, (in_range_lem (total_of s) p.0).1)
  ]

  -- bytes begin in one of three ways
  pub beginning_is : Beginning s
  beginning_is = elim (test (waits s)) [
    | yes w ↦ waiting w
    | no w ↦ elim (test (in_range (total_of s))) [
      | yes r ↦ whole w r
      | no r ↦ closing w r
    ]
  ]

-- with more bytes after them, four bytes name the same total
pub total_front : (s t : List ℕ) → 4 ≤ length s → total_of (s ++ t) ≡ total_of s
unfolding total_of
total_front s t h = ap (λ (l : List ℕ). number l + 4) (take-append-le 4 s t h)

-- and what bytes begin with stays, once they wait no more
pub begun : (s t : List ℕ) → waits s ≡ false → (waits (s ++ t) ≡ false) × (total_of (s ++ t) ≡ total_of s)
begun s t w =
    let four = waits_long s w in
    let longer : length s ≤ length (s ++ t) = omega (arith, length-append s t) in
    let e : total_of (s ++ t) ≡ total_of s = total_front s t four in
    elim (test (in_range (total_of s))) [
      | yes r ↦ (waits_done (s ++ t) (omega (arith, four, longer)) (omega (arith, e, waits_whole s w r, longer)), e)
      | no r ↦ (waits_out (s ++ t) (omega (arith, four, longer)) (ap in_range e ∙ r), e)
    ]

-- the answers to bytes, by what they begin with
module _ (n : ℕ) (s : List ℕ) where
  pub answers_closing : waits s ≡ false → in_range (total_of s) ≡ false → answers_for (suc n) s ≡ closes ∷ []
  unfolding answers_for
  answers_closing w r = rw (w, r)

  pub answers_whole : waits s ≡ false → in_range (total_of s) ≡ true
      → answers_for (suc n) s ≡ reads (take (total_of s) s) ∷ answers_for n (drop (total_of s) s)
  unfolding answers_for
  answers_whole w r = rw (w, r)

pub answers_waiting : (n : ℕ) (s : List ℕ) → waits s ≡ true → answers_for n s ≡ []
unfolding answers_for
answers_waiting zero s w = refl
answers_waiting (suc n) s w = rw w

total_least : (s : List ℕ) → 4 ≤ total_of s
unfolding total_of
total_least s = omega arith

-- where as many answers are allowed as there are bytes, more of them change nothing
pub answers_enough : (n m : ℕ) (s : List ℕ) → length s ≤ n → length s ≤ m → answers_for n s ≡ answers_for m s
unfolding answers_for
answers_enough zero m s hn hm = sym (answers_waiting m s (waits_short s (omega arith)))
answers_enough (suc n) zero s hn hm = answers_waiting (suc n) s (waits_short s (omega arith))
answers_enough (suc n) (suc m) s hn hm =
    let four = total_least s in
    let left = length-drop (total_of s) s in
    ap (λ (r : List Event). by_beginning s [] (closes ∷ []) (reads (take (total_of s) s) ∷ r))
    (answers_enough n m (drop (total_of s) s) (omega arith) (omega arith))

-- so with no bound: take a total, cut a report off, and go on after it
pub answers_go_on : (s : List ℕ)
    → answers_of s ≡ by_beginning s [] (closes ∷ []) (reads (take (total_of s) s) ∷ answers_of (drop (total_of s) s))
unfolding answers_for
answers_go_on s =
    let left = length-drop (total_of s) s in
    answers_enough (length s) (suc (length s)) s (omega arith) (omega arith)
    ∙ ap (λ (r : List Event). by_beginning s [] (closes ∷ []) (reads (take (total_of s) s) ∷ r))
    (answers_enough (length s) (length (drop (total_of s) s)) (drop (total_of s) s) (omega arith) (omega arith))
