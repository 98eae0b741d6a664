-- Proved: laws of the fingerprint's message: two well-formed reports share it exactly when they agree in every field but the send time
-- and the attempt. Assumes nothing.
use Rattle.std.specs.Prelude.{◌≡◌, ◌↔◌, length, take, drop}
use Rattle.std.proofs.Math.Path.{refl, sym, ap}
use Rattle.std.proofs.Common.{ap₂, ◌∙◌, arith, lit≤, drop-drop}
use mathlib.Core.List.{List, ◌++◌, append-nil}
use Prim.Native.Nat.{ℕ, ◌+◌, ◌-◌, ◌≤◌}
use Rattle.std.proofs.Math.Seq.{take_at, drop_at, slice, slice_empty, length-slice}
use Rattle.octets.specs.Number.Laws.{number_slice, number_between}
use Rattle.octets.specs.Number.{number_at, bytes}
use Rattle.report.specs.Layout.{Fields, sites_bytes, tag_size_of, AgreeButSendTimeAndAttempt}
use Rattle.report.specs.Reading.{tag_size_in, tag_start, before_tag, read_sites, fields_of, read_of, WellFormed}
use Rattle.report.specs.Inside.{after_attempt}
use Rattle.report.specs.Reading.Laws.{read_fields, well_formed_passed, tag_low, tag_high, after_attempt_lem}
use Rattle.report.specs.Fingerprint.{gap_start, gap_end, message_of}

-- what the fields between the count and the send time spell
before_sent : Fields → List ℕ
before_sent f = bytes 1 f.version ++ (bytes 1 f.hash ++ (bytes 4 f.tenant ++ (bytes 8 f.machine ++ bytes 8 f.report)))

module _ (s : List ℕ) (w : WellFormed s) where
  -- the first part of the message has as many bytes as stand between the count and the gap
  first_length : length (slice 4 gap_start s) ≡ gap_start - 4
  first_length = length-slice 4 gap_start s (omega (arith, (well_formed_passed s w).long))

  -- a number of the first part, spelled before what follows it there
  spelled : (at n end : ℕ) → at + n ≡ end → end ≤ gap_start → bytes n (number_at s at n) ++ slice end gap_start s ≡ slice at gap_start s
  spelled at n end e h = number_between s gap_start at n end w.bytes e h (omega (arith, (well_formed_passed s w).long))

  -- the fields between the count and the send time spell the first part
  before_sent_lem : before_sent (fields_of s) ≡ slice 4 gap_start s
  unfolding before_sent
  before_sent_lem =
      let last : bytes 8 (number_at s 18 8) ≡ slice 18 gap_start s =
      sym (append-nil (bytes 8 (number_at s 18 8)))
      ∙ ap (λ (r : List ℕ). bytes 8 (number_at s 18 8) ++ r) (sym (slice_empty gap_start s))
      ∙ spelled 18 8 gap_start refl (lit≤ tt)
      in
      rw (last, spelled 10 8 18 refl (lit≤ tt), spelled 6 4 10 refl (lit≤ tt), spelled 5 1 6 refl (lit≤ tt), spelled 4 1 5 refl (lit≤ tt))

  -- so the message is what the fields but the count, the send time and the attempt spell
  message_spelled : message_of s ≡ before_sent (fields_of s) ++ after_attempt (fields_of s)
  unfolding message_of
  message_spelled = rw (before_sent_lem, after_attempt_lem s w)

-- fields that agree but for the send time and the attempt spell the same
spelled_same : (f g : Fields) → AgreeButSendTimeAndAttempt f g → before_sent f ++ after_attempt f ≡ before_sent g ++ after_attempt g
unfolding before_sent
spelled_same f g a =
    λ i.
    (bytes 1 (a.version i) ++ (bytes 1 (a.hash i) ++ (bytes 4 (a.tenant i) ++ (bytes 8 (a.machine i) ++ bytes 8 (a.report i)))))
    ++ (bytes 8 (a.memory i) ++ (bytes 2 (length (a.sites i)) ++ sites_bytes (a.sites i)))

module _ (s t : List ℕ) (v : WellFormed s) (w : WellFormed t) where
  -- a number inside a part that both share
  shared : (from top top' i n : ℕ) → from + i + n ≤ top → from + i + n ≤ top' → slice from top s ≡ slice from top' t
      → number_at s (from + i) n ≡ number_at t (from + i) n
  shared from top top' i n h h' e =
      sym (number_slice from top i n s h) ∙ ap (λ (r : List ℕ). number_at r i n) e ∙ number_slice from top' i n t h'

  -- reports that share both parts agree: each field but the count is read from a part
  agree : slice 4 gap_start s ≡ slice 4 gap_start t → slice gap_end (tag_start s) s ≡ slice gap_end (tag_start t) t → AgreeButSendTimeAndAttempt (fields_of s) (fields_of t)
  agree p q =
      let k : 45 ≤ tag_start s = tag_low s v in
      let k' : 45 ≤ tag_start t = tag_low t w in
      let hash : number_at s 5 1 ≡ number_at t 5 1 = shared 4 gap_start gap_start 1 1 (lit≤ tt) (lit≤ tt) p in
      let sites : number_at s 43 2 ≡ number_at t 43 2 = shared gap_end (tag_start s) (tag_start t) (43 - gap_end) 2 k k' q in
      let rest : drop 45 (before_tag s) ≡ drop 45 (before_tag t) =
      sym (drop-drop (45 - gap_end) gap_end (before_tag s)) ∙ ap (drop (45 - gap_end)) q ∙ drop-drop (45 - gap_end) gap_end (before_tag t)
      in
      record {
        count = counts hash q;
        version = shared 4 gap_start gap_start 0 1 (lit≤ tt) (lit≤ tt) p;
        hash = hash;
        tenant = shared 4 gap_start gap_start 2 4 (lit≤ tt) (lit≤ tt) p;
        machine = shared 4 gap_start gap_start 6 8 (lit≤ tt) (lit≤ tt) p;
        report = shared 4 gap_start gap_start 14 8 (lit≤ tt) (lit≤ tt) p;
        memory = shared gap_end (tag_start s) (tag_start t) (35 - gap_end) 8 (omega arith) (omega arith) q;
        sites = ap₂ (λ (n : ℕ) (l : List ℕ). (read_sites n l).1) sites rest;
      }
    where
      -- the count is the length less four, and the length that of the second part, of what stands before it and of the tag
      counts : number_at s 5 1 ≡ number_at t 5 1 → slice gap_end (tag_start s) s ≡ slice gap_end (tag_start t) t → number_at s 0 4 ≡ number_at t 0 4
      counts h q =
          let tags : tag_size_in s ≡ tag_size_in t = ap tag_size_of h in
          omega (
            arith,
            tags,
            ap length q,
            length-slice gap_end (tag_start s) s (tag_high s v),
            length-slice gap_end (tag_start t) t (tag_high t w),
            (well_formed_passed s v).count,
            (well_formed_passed t w).count,
            (well_formed_passed s v).tag_fits,
            (well_formed_passed t w).tag_fits,
          )

  -- the message is the same exactly when the reports agree in every field but the send time and the attempt
  pub messages_same : message_of s ≡ message_of t ↔ AgreeButSendTimeAndAttempt (read_of s).1 (read_of t).1
  unfolding message_of
  messages_same = rw (read_fields s v.reads, read_fields t w.reads) (there, back)
    where
      -- the seam of the two parts is at one place in both messages
      there : message_of s ≡ message_of t → AgreeButSendTimeAndAttempt (fields_of s) (fields_of t)
      there e =
          let seam : ℕ = gap_start - 4 in
          let f = first_length s v in
          let g = first_length t w in
          agree
          (sym (take_at (slice 4 gap_start s) (slice gap_end (tag_start s) s) seam f) ∙ ap (take seam) e ∙ take_at (slice 4 gap_start t) (slice gap_end (tag_start t) t) seam g)
          (sym (drop_at (slice 4 gap_start s) (slice gap_end (tag_start s) s) seam f) ∙ ap (drop seam) e ∙ drop_at (slice 4 gap_start t) (slice gap_end (tag_start t) t) seam g)

      back : AgreeButSendTimeAndAttempt (fields_of s) (fields_of t) → message_of s ≡ message_of t
      back a = message_spelled s v ∙ spelled_same (fields_of s) (fields_of t) a ∙ sym (message_spelled t w)
