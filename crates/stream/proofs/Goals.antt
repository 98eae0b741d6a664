-- What is collected up to a goal, in the words of the definition: from four bytes up to their total, and up to four bytes.
-- Assumes nothing.
use mathlib.Core.Path.{◌≡◌, sym, ap, ap₂, ◌∙◌}
use mathlib.Core.Bool.{Bool, true, false, cond, true≢false}
use mathlib.Core.List.{List, ◌++◌}
use Prim.Native.Nat.{ℕ, ◌+◌, ◌-◌, ◌≤◌, ◌<◌}
use native.Mathlib.Omega.{arith}
use lib.ListN.{length, take, drop, length-drop, take-append-drop}
use lib.Seq.{length-take-le}
use borrow.Author.Tests.{lt-ltb, le-ltb}
use Rattle.report.specs.Layout.{largest_report}
use Rattle.stream.specs.Stream.{total_of, in_range, waits}
use Rattle.stream.proofs.Proved.Stream.Laws.{in_range_lem, waits_short, waits_below, waits_out, waits_done, beginning_is, total_front}
use Rattle.stream.specs.Calls.{Fed, more_fed, closing_fed, whole_fed, filled, on_hand, taken}
use Rattle.stream.proofs.Proved.Inside.Laws.{taken_more, taken_closing, taken_whole, used_fits, take_filled, filled_length, filled_again, hand_length, hand_drop, hand_total, held_total}
use Rattle.stream.specs.Inside.{Beginning, Goal, CollectOutcome, Waiting, later_fed}
use Rattle.stream.specs.Inside.Beginning.{waiting, closing, whole}

-- the piece ends before the goal, or reaches it
module _ (c g : ℕ) (b p after : List ℕ) (col : CollectOutcome c g b p after) where
  all_in : c + length p < g → after ≡ filled (c + length p) (on_hand c b p) b
  all_in h = col ∙ ap (λ (t : Bool). filled (cond t (c + length p) g) (on_hand c b p) b) (lt-ltb (c + length p) g h)

  goal_in : g ≤ c + length p → after ≡ filled g (on_hand c b p) b
  goal_in h = col ∙ ap (λ (t : Bool). filled (cond t (c + length p) g) (on_hand c b p) b) (le-ltb (c + length p) g h)

-- all of a piece that is not enough
all_taken : (c g : ℕ) (b p : List ℕ) (o : Waiting c b) (after : List ℕ) → CollectOutcome c g b p after → c + length p < g
    → waits (on_hand c b p) ≡ true → ◌≡◌ {A = Fed × List ℕ} (more_fed (length p) (c + length p), after) (taken (on_hand c b p) c (length p) b)
all_taken c g b p o after col h w =
    let n : c + length p ≡ length (on_hand c b p) = sym (hand_length c b p o) in
    ap₂ (λ (k : ℕ) (l : List ℕ). (more_fed (length p) k, l)) n (all_in c g b p after col h ∙ ap (λ (k : ℕ). filled k (on_hand c b p) b) n)
    ∙ sym (taken_more (on_hand c b p) c (length p) b w)

-- four bytes at least are collected, and t is their total
module _ (c t : ℕ) (b p : List ℕ) (o : Waiting c b) (four : 4 ≤ c) (e : t ≡ total_of (take c b)) where
  same : t ≡ total_of (on_hand c b p)
  same = e ∙ sym (hand_total c b p o four)

  total_in : in_range (total_of (on_hand c b p)) ≡ true
  total_in = ap in_range (hand_total c b p o four) ∙ (held_total c b p o four).0

  pub body_goal : Goal c t b
  body_goal =
      let h = held_total c b p o four in
      record { ahead = omega (arith, e, h.1); room = omega (arith, e, (in_range_lem (total_of (take c b)) h.0).1, o.size) }

  module _ (after : List ℕ) (col : CollectOutcome c t b p after) where
    pub body_more : c + length p < t
        → ◌≡◌ {A = Fed × List ℕ} (more_fed (length p) (c + length p), after) (taken (on_hand c b p) c (length p) b)
    body_more h =
        all_taken c t b p o after col h (waits_below (on_hand c b p) total_in (omega (arith, hand_length c b p o, same)))

    pub body_whole : t ≤ c + length p
        → ◌≡◌ {A = Fed × List ℕ} (whole_fed (take t after) (t - c), after) (taken (on_hand c b p) c (length p) b)
    body_whole h =
        let s = on_hand c b p in
        let fits : total_of s ≤ length s = omega (arith, hand_length c b p o, same) in
        let a : after ≡ filled (total_of s) s b = goal_in c t b p after col h ∙ ap (λ (k : ℕ). filled k s b) same in
        let q : take t after ≡ take (total_of s) s = ap₂ take same a ∙ take_filled (total_of s) s b fits in
        let w : waits s ≡ false = waits_done s (omega (arith, hand_length c b p o)) fits in
        (λ i. (whole_fed (q i) (same i - c), a i)) ∙ sym (taken_whole s c (length p) b w total_in)

-- fewer than four bytes are collected
module _ (c : ℕ) (b p : List ℕ) (o : Waiting c b) (few : c < 4) (after : List ℕ) (col : CollectOutcome c 4 b p after) where
  pub head_more : c + length p < 4
      → ◌≡◌ {A = Fed × List ℕ} (more_fed (length p) (c + length p), after) (taken (on_hand c b p) c (length p) b)
  head_more h = all_taken c 4 b p o after col h (waits_short (on_hand c b p) (omega (arith, hand_length c b p o)))

  -- now there are four
  module _ (h : 4 ≤ c + length p) where
    four_in : 4 ≤ length (on_hand c b p)
    four_in = omega (arith, hand_length c b p o)

    is_filled : after ≡ filled 4 (on_hand c b p) b
    is_filled = goal_in c 4 b p after col h

    pub after_length : length after ≡ largest_report
    after_length = ap length is_filled ∙ filled_length 4 (on_hand c b p) b four_in (omega (arith, o.size)) ∙ o.size

    front : take 4 after ≡ take 4 (on_hand c b p)
    front = ap (take 4) is_filled ∙ take_filled 4 (on_hand c b p) b four_in

    front_length : length (take 4 after) ≡ 4
    front_length = length-take-le 4 after (omega (arith, after_length))

    total_is : total_of (take 4 after) ≡ total_of (on_hand c b p)
    total_is =
        ap total_of front
        ∙ sym (total_front (take 4 (on_hand c b p)) (drop 4 (on_hand c b p)) (omega (arith, length-take-le 4 (on_hand c b p) four_in)))
        ∙ ap total_of (take-append-drop 4 (on_hand c b p))

    module _ (t : ℕ) (e : t ≡ total_of (take 4 after)) where
      pub head_closing : in_range t ≡ false → ◌≡◌ {A = Fed × List ℕ} (closing_fed (4 - c), after) (taken (on_hand c b p) c (length p) b)
      head_closing n =
          let out : in_range (total_of (on_hand c b p)) ≡ false = ap in_range (sym (e ∙ total_is)) ∙ n in
          ap (λ (l : List ℕ). (closing_fed (4 - c), l)) is_filled
          ∙ sym (taken_closing (on_hand c b p) c (length p) b (waits_out (on_hand c b p) four_in out) out)

      module _ (n : in_range t ≡ true) where
        pub head_waiting : Waiting 4 after
        head_waiting =
            let i : in_range (total_of (take 4 after)) ≡ true = ap in_range (sym e) ∙ n in
            record {
              few = omega arith;
              size = after_length;
              wait = waits_below (take 4 after) i (omega (arith, front_length, (in_range_lem (total_of (take 4 after)) i).0));
            }

        -- the rest of the piece is taken in from there as all of it is from the start
        pub head_on : (q : List ℕ) (fed : Fed) (end : List ℕ) → q ≡ drop (4 - c) p
            → ◌≡◌ {A = Fed × List ℕ} (fed, end) (taken (on_hand 4 after q) 4 (length q) after)
            → ◌≡◌ {A = Fed × List ℕ} (later_fed fed (4 - c), end) (taken (on_hand c b p) c (length p) b)
        head_on q fed end eq is = by (beginning_is (on_hand c b p))
          where
            s : List ℕ
            s = on_hand c b p

            more_used : Fed × List ℕ → Fed × List ℕ
            more_used x = (later_fed x.0 (4 - c), x.1)

            hand : on_hand 4 after q ≡ s
            hand = ap₂ (λ (x y : List ℕ). x ++ y) front (eq ∙ sym (hand_drop c b p o 4 (omega arith))) ∙ take-append-drop 4 s

            size : 4 - c + length q ≡ length p
            size = omega (arith, ap length eq, length-drop (4 - c) p)

            again : (k : ℕ) → 4 ≤ k → filled k s after ≡ filled k s b
            again k l = ap (filled k s) is_filled ∙ filled_again 4 s b four_in k l

            from_four : ◌≡◌ {A = Fed × List ℕ} (fed, end) (taken s 4 (length q) after)
            from_four = is ∙ ap (λ (l : List ℕ). taken l 4 (length q) after) hand

            i : in_range (total_of s) ≡ true
            i = ap in_range (sym (e ∙ total_is)) ∙ n

            by : Beginning s → ◌≡◌ {A = Fed × List ℕ} (later_fed fed (4 - c), end) (taken s c (length p) b)
            by (waiting w) =
                ap more_used (from_four ∙ taken_more s 4 (length q) after w)
                ∙ ap₂ (λ (k : ℕ) (l : List ℕ). (more_fed k (length s), l)) size (again (length s) four_in)
                ∙ sym (taken_more s c (length p) b w)
            by (closing w z) = absurd (true≢false (sym i ∙ z))
            by (whole w z) =
                let smallest = (in_range_lem (total_of s) i).0 in
                let sum : 4 - c + (total_of s - 4) ≡ total_of s - c = omega arith in
                ap more_used (from_four ∙ taken_whole s 4 (length q) after w i)
                ∙ ap₂ (λ (k : ℕ) (l : List ℕ). (whole_fed (take (total_of s) s) k, l)) sum (again (total_of s) (omega arith))
                ∙ sym (taken_whole s c (length p) b w i)

        -- and no more is used than the piece has
        pub head_used : (q : List ℕ) (fed : Fed) (end : List ℕ) → q ≡ drop (4 - c) p
            → ◌≡◌ {A = Fed × List ℕ} (fed, end) (taken (on_hand 4 after q) 4 (length q) after) → 4 - c + fed.used ≤ length p
        head_used q fed end eq is =
            let u = ap (λ (x : Fed × List ℕ). x.0.used) is in
            let fits = used_fits (on_hand 4 after q) 4 (length q) after (hand_length 4 after q head_waiting) in
            omega (arith, u, fits, ap length eq, length-drop (4 - c) p)
