-- The walk over the sites, one site at a time: what the definition reads from a place of a report's body. Assumes nothing.
use Rattle.std.specs.Prelude.{◌≡◌, refl, Bool, true, false, cond, ◌&&◌, List, [], ℕ, suc, ◌+◌, ◌-◌, ◌≤◌, ◌<◌, leb, ltb, length, take, drop, get_or, Option, Some, None, Err}
use Rattle.std.proofs.Common.{sym, ap, ◌∙◌, zero-add, add-zero, add_assoc, add-one, arith, lit≤, ltb-false, length-drop, drop-cons, drop-drop, le-leb, lt-ltb, le-ltb}
use Rattle.std.proofs.lemmas.Bool.{lt-leb}
use Rattle.std.proofs.Math.Decide.{dec_lt}
use Rattle.std.proofs.Math.ListN.{drop_of_length-le}
use Rattle.octets.specs.Number.{number}
use Rattle.octets.specs.Sums.{largest_total, no_sum, plus_of, SumIs}
use Rattle.octets.specs.Sums.Laws.{plus_is}
use Rattle.algorithm.specs.Answers.{number_of}
use Rattle.algorithm.specs.Answers.Laws.{refusal_tested, refusal_not_done}
use Rattle.algorithm.specs.declared.refusals.Refusal.{Refusal}
use Rattle.algorithm.specs.Refusals.{done, label_length_out_of_range, sites_misplaced, sum_too_large}
use Rattle.algorithm.specs.Checks.{first_failing}
use Rattle.report.specs.Layout.{Site, live_of}
use Rattle.report.specs.Reading.{with_site, read_sites, sites_checks}
use Rattle.report.specs.Inside.{Step, step_by, Counted, counted_by, site_here, Fits, Stepped, end_of, Walked}

-- a step that is refused
pub refused_step : (b : List ℕ) (at : ℕ) (e : Refusal) → ((n : ℕ) → (read_sites (suc n) (drop at b)).0 ≡ number_of e) → Stepped b at (step_by (Err e))
refused_step b at e f = record {
  refuses = λ z n. f n;
  fits = λ d. absurd (refusal_not_done e d);
  next = λ d. absurd (refusal_not_done e d);
  live = λ d. absurd (refusal_not_done e d);
}

-- no byte is left for the length of a label
pub none_left : (b : List ℕ) (at : ℕ) → length b ≤ at → (n : ℕ) → (read_sites (suc n) (drop at b)).0 ≡ sites_misplaced
unfolding read_sites
none_left b at h n = rw (drop_of_length-le b {i = at} h)

module _ (b : List ℕ) (at : ℕ) (h : at < length b) where
  -- so many bytes after the length of a label
  after : (k j : ℕ) → suc at + k ≡ j → drop k (drop (suc at) b) ≡ drop j b
  after k j e = drop-drop k (suc at) b ∙ ap (λ (i : ℕ). drop i b) e

  -- the definition at a place, in the terms of the body
  here : (n : ℕ) → read_sites (suc n) (drop at b) ≡
      cond (leb 1 (get_or b at 0) && leb (get_or b at 0) 48)
      (cond (leb (get_or b at 0 + 12) (length b - (at + 1)))
      (with_site (site_here b at) (read_sites n (drop (at + get_or b at 0 + 13) b)))
      (sites_misplaced, []))
      (label_length_out_of_range, [])
  unfolding read_sites
  here n =
      let k : ℕ = get_or b at 0 in
      let room : length (drop (suc at) b) ≡ length b - (at + 1) = length-drop (suc at) b ∙ omega arith in
      let label : drop (suc at) b ≡ drop (at + 1) b = ap (λ (i : ℕ). drop i b) (sym (add-one at)) in
      let live : drop k (drop (suc at) b) ≡ drop (at + k + 1) b = after k (at + k + 1) (omega arith) in
      let blocks : drop (k + 8) (drop (suc at) b) ≡ drop (at + k + 9) b = after (k + 8) (at + k + 9) (omega arith) in
      let rest : drop (k + 12) (drop (suc at) b) ≡ drop (at + k + 13) b = after (k + 12) (at + k + 13) (omega arith) in
      ap (read_sites (suc n)) (drop-cons b at 0 h)
      ∙ (λ i.
      cond (leb 1 k && leb k 48)
      (cond (leb (k + 12) (room i))
      (with_site (record { label = take k (label i); live = number (take 8 (live i)); blocks = number (take 4 (blocks i)) }) (read_sites n (rest i)))
      (sites_misplaced, []))
      (label_length_out_of_range, []))

  -- the length of the label is out of range
  pub no_label : get_or b at 0 < 1 → (n : ℕ) → (read_sites (suc n) (drop at b)).0 ≡ label_length_out_of_range
  no_label o n = rw (here n, lt-leb 1 (get_or b at 0) o)

  module _ (o : 1 ≤ get_or b at 0) where
    pub long_label : 48 < get_or b at 0 → (n : ℕ) → (read_sites (suc n) (drop at b)).0 ≡ label_length_out_of_range
    long_label u n = rw (here n, le-leb 1 (get_or b at 0) o, lt-leb (get_or b at 0) 48 u)

    module _ (u : get_or b at 0 ≤ 48) where
      -- the site runs into the tag
      pub no_room : length b - at < get_or b at 0 + 13 → (n : ℕ) → (read_sites (suc n) (drop at b)).0 ≡ sites_misplaced
      no_room l n =
          let k : length b - (at + 1) < get_or b at 0 + 12 = omega arith in
          rw (here n, le-leb 1 (get_or b at 0) o, le-leb (get_or b at 0) 48 u, lt-leb (get_or b at 0 + 12) (length b - (at + 1)) k)

      -- the site fits
      pub fits : get_or b at 0 + 13 ≤ length b - at → Fits b at
      fits l =
          let k : get_or b at 0 + 12 ≤ length b - (at + 1) = omega arith in
          record {
            room = omega arith;
            reads = λ n. rw (here n, le-leb 1 (get_or b at 0) o, le-leb (get_or b at 0) 48 u, le-leb (get_or b at 0 + 12) (length b - (at + 1)) k);
          }

-- no site more: bytes are left, or not
pub none_more : (b : List ℕ) (at : ℕ) → read_sites 0 (drop at b) ≡ (cond (ltb at (length b)) sites_misplaced done, [])
unfolding read_sites
none_more b at = elim (dec_lt at (length b)) [
  | yes h ↦ ap (read_sites 0) (drop-cons b at 0 h) ∙ rw (lt-ltb at (length b) h)
  | no h ↦
      let k : length b ≤ at = omega arith in
      ap (read_sites 0) (drop_of_length-le b {i = at} k) ∙ rw (le-ltb at (length b) k)
]

-- a sum, where there is one, is not above the largest total: the sum of nothing is not, nor is one with a number more
abbrev pub InRange : Option ℕ → Type 0
InRange None = Unit {0}
InRange (Some n) = n ≤ largest_total

in_range_more : (a : Option ℕ) (x : ℕ) → InRange a → InRange (plus_of a x)
in_range_more None x h = tt
in_range_more (Some n) x h = by_case (ltb (largest_total - n) x) refl
  where
    by_case : (b : Bool) → ltb (largest_total - n) x ≡ b → InRange (cond b None (Some (n + x)))
    by_case true e = tt
    by_case false e = omega (arith, ltb-false (largest_total - n) x e)

-- the end of the walk answers by what it found: bytes left, a sum that passed, or the sum
walk_end : (w : ℕ × List Site) (left : Bool) (sum : Option ℕ) (t : ℕ) → w.0 ≡ cond left sites_misplaced done → live_of w.1 ≡ t → SumIs sum t
    → InRange sum → (r : Counted) → r ≡ end_of left sum → (r.number ≡ first_failing (sites_checks w)) × (r.number ≡ done → r.live ≡ live_of w.1)
walk_end w true sum t en el es k r e =
    let n : r.number ≡ sites_misplaced = ap (λ (x : Counted). x.number) e in
    (n ∙ rw en, λ d. absurd (omega arith))
walk_end w false None t en el es k r e =
    let n : r.number ≡ sum_too_large = ap (λ (x : Counted). x.number) e in
    (n ∙ rw (en, lt-leb (live_of w.1) largest_total (omega arith)), λ d. absurd (omega arith))
walk_end w false (Some m) t en el es k r e =
    let n : r.number ≡ done = ap (λ (x : Counted). x.number) e in
    let live : r.live ≡ live_of w.1 = ap (λ (x : Counted). x.live) e ∙ es ∙ sym el in
    (n ∙ rw (en, le-leb (live_of w.1) largest_total (omega arith)), λ d. live)

-- how far the walk is: the sites passed have t live bytes, and the rest are read from here on
pub record Far (b : List ℕ) (sites at : ℕ) (sum : Option ℕ) (i : ℕ) : Type 0 where
  pub inside : at ≤ length b
  pub below : i ≤ sites
  pub t : ℕ
  pub number : (read_sites sites (drop 45 b)).0 ≡ (read_sites (sites - i) (drop at b)).0
  pub live : live_of (read_sites sites (drop 45 b)).1 ≡ t + live_of (read_sites (sites - i) (drop at b)).1
  pub sums : SumIs sum t
  pub in_range : InRange sum

pub far_start : (b : List ℕ) (sites : ℕ) → 45 ≤ length b → Far b sites 45 no_sum 0
far_start b sites h =
    let e : sites - 0 ≡ sites = omega arith in
    record {
      inside = h;
      below = omega arith;
      t = 0;
      number = ap (λ (k : ℕ). (read_sites k (drop 45 b)).0) (sym e);
      live = ap (λ (k : ℕ). live_of (read_sites k (drop 45 b)).1) (sym e) ∙ sym (zero-add (live_of (read_sites (sites - 0) (drop 45 b)).1));
      sums = refl;
      in_range = lit≤ tt;
    }

module _ (b : List ℕ) (sites at : ℕ) (sum : Option ℕ) (i : ℕ) (f : Far b sites at sum i) where
  module _ (r : Step) (s : Stepped b at r) (l : i < sites) where
    one : sites - i ≡ suc (sites - (i + 1))
    one = omega arith

    -- a site that is refused refuses all
    pub far_refused : (r.number ≡ done → ⊥) → (read_sites sites (drop 45 b)).0 ≡ r.number
    far_refused z = f.number ∙ ap (λ (k : ℕ). (read_sites k (drop at b)).0) one ∙ s.refuses z (sites - (i + 1))

    -- a site that is taken leads to the next
    pub far_more : r.number ≡ done → Far b sites r.next (plus_of sum r.live) (i + 1)
    unfolding live_of
    far_more z =
        let w : read_sites (sites - i) (drop at b) ≡ with_site (site_here b at) (read_sites (sites - (i + 1)) (drop r.next b)) =
        ap (λ (k : ℕ). read_sites k (drop at b)) one
        ∙ (s.fits z).reads (sites - (i + 1))
        ∙ ap (λ (k : ℕ). with_site (site_here b at) (read_sites (sites - (i + 1)) (drop k b))) (sym (s.next z))
        in
        record {
          inside = omega (arith, s.next z, (s.fits z).room);
          below = omega arith;
          t = f.t + r.live;
          number = f.number ∙ ap (λ (x : ℕ × List Site). x.0) w;
          live =
              f.live
              ∙ ap (λ (x : ℕ × List Site). f.t + live_of x.1) w
              ∙ ap (λ (k : ℕ). f.t + (k + live_of (read_sites (sites - (i + 1)) (drop r.next b)).1)) (sym (s.live z))
              ∙ sym (add_assoc f.t r.live (live_of (read_sites (sites - (i + 1)) (drop r.next b)).1));
          sums = plus_is sum r.live f.t f.sums;
          in_range = in_range_more sum r.live f.in_range;
        }

  -- after the last site
  module _ (z : sites ≤ i) where
    over : sites - i ≡ 0
    over = omega arith

    end_number : (read_sites sites (drop 45 b)).0 ≡ cond (ltb at (length b)) sites_misplaced done
    end_number = f.number ∙ ap (λ (k : ℕ). (read_sites k (drop at b)).0) over ∙ ap (λ (x : ℕ × List Site). x.0) (none_more b at)

    end_live : live_of (read_sites sites (drop 45 b)).1 ≡ f.t
    unfolding live_of
    end_live =
        f.live
        ∙ ap (λ (k : ℕ). f.t + live_of (read_sites k (drop at b)).1) over
        ∙ ap (λ (x : ℕ × List Site). f.t + live_of x.1) (none_more b at)
        ∙ add-zero f.t

    pub far_end : (r : Counted) → r ≡ end_of (ltb at (length b)) sum → Walked b sites r
    far_end r e =
        let k = walk_end (read_sites sites (drop 45 b)) (ltb at (length b)) sum f.t end_number end_live f.sums f.in_range r e in
        record { number = k.0; live = k.1 }

-- sites that are refused
pub refused_walk : (b : List ℕ) (sites : ℕ) (e : Refusal) → (read_sites sites (drop 45 b)).0 ≡ number_of e → Walked b sites (counted_by (Err e))
refused_walk b sites e k = record { number = rw (k, refusal_tested e); live = λ d. absurd (refusal_not_done e d) }
