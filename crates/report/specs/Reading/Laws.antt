-- Proved: laws of reading a report: what a report that passes has, what its sites are, and that its fields spell the bytes before its tag.
-- Assumes nothing.
use Rattle.std.specs.Prelude.{◌≡◌, Bool, true, false, cond, ◌&&◌, List, [], ◌∷◌, ◌++◌, ℕ, zero, suc, ◌+◌, ◌-◌, ◌*◌, ◌≤◌, leb, ltb, eqb, length, drop}
use Rattle.std.proofs.Math.Path.{refl}
use Rattle.std.proofs.Common.{ap, ◌∙◌, append_assoc, arith, lit≤, take-append-drop, length-drop, length-take-le, leb-true, ltb-true, le-leb, eqb-true, eq-eqb}
use Rattle.std.proofs.Math.Seq.{slice}
use Rattle.std.proofs.lemmas.Bool.{eqb-false}
use Rattle.octets.specs.Number.{number_at, bytes}
use Rattle.octets.specs.Number.Laws.{number_back, number_between}
use Rattle.octets.specs.Number.Spelled.{byte_bytes}
use Rattle.octets.specs.Every.{every, all_bytes}
use Rattle.octets.specs.Every.Laws.{and_parts, every_take, every_drop}
use Rattle.octets.specs.Sums.{largest_total}
use Rattle.algorithm.specs.declared.hashes.Hash.TheVariants.{Sha256, Sha512}
use Rattle.algorithm.specs.Hashes.{size_of}
use Rattle.algorithm.specs.Refusals.{done, label_length_out_of_range, sites_misplaced}
use Rattle.algorithm.specs.Checks.{Check, first_failing, Pass, Refusing}
use Rattle.algorithm.specs.Checks.Pass.{all, and}
use Rattle.algorithm.specs.Checks.Refusing.{none, more}
use Rattle.algorithm.specs.Checks.Laws.{done_passes, refuses}
use Rattle.report.specs.Layout.{Site, site_bytes, sites_bytes, bytes_of, tag_size_of, smallest_report, largest_report, live_of}
use Rattle.report.specs.Reading.{hash_named, tag_size_in, tag_start, before_tag, first_site, with_site, read_sites, sites_in, sites_checks, read_checks, fields_of, read_of, WellFormed}
use Rattle.report.specs.Inside.{First, after_attempt, Passed, numbers_at_most}

-- a report's tag is half a digest of its hash, 16 bytes at least and 32 at most
pub tag_half : (n : ℕ) → 2 * tag_size_of n ≡ size_of (hash_named n)
tag_half n = half (eqb n 2)
  where
    half : (b : Bool) → 2 * cond b 32 16 ≡ size_of (cond b Sha512 Sha256)
    half true = refl
    half false = refl

pub tag_least : (n : ℕ) → 16 ≤ tag_size_of n
tag_least n = least (eqb n 2)
  where
    least : (b : Bool) → 16 ≤ cond b 32 16
    least true = lit≤ tt
    least false = lit≤ tt

pub tag_most : (n : ℕ) → tag_size_of n ≤ 32
tag_most n = most (eqb n 2)
  where
    most : (b : Bool) → cond b 32 16 ≤ 32
    most true = lit≤ tt
    most false = lit≤ tt

-- both tests of a site pass where it is not refused, and so it is the first
both_pass : (b c : Bool) (w : ℕ × List Site) → (cond b (cond c w (sites_misplaced, [])) (label_length_out_of_range, [])).0 ≡ done
    → (b ≡ true) × (c ≡ true)
both_pass true true w e = (refl, refl)
both_pass true false w e = absurd (omega arith)
both_pass false c w e = absurd (omega arith)

pub first : (n size : ℕ) (l : List ℕ) → (read_sites (suc n) (size ∷ l)).0 ≡ done → First n size l
unfolding read_sites
first n size l e =
    let w : ℕ × List Site = with_site (first_site size l) (read_sites n (drop (size + 12) l)) in
    let p = both_pass (leb 1 size && leb size 48) (leb (size + 12) (length l)) w e in
    record {
      range = p.0;
      room = leb-true (size + 12) (length l) p.1;
      is = rw (p.0, p.1);
      rest = rw (p.0, p.1) at e;
    }

-- n sites are n
pub sites_count : (n : ℕ) (l : List ℕ) → (read_sites n l).0 ≡ done → length (read_sites n l).1 ≡ n
unfolding read_sites
sites_count zero [] e = refl
sites_count zero (b ∷ l) e = absurd (omega arith)
sites_count (suc n) [] e = absurd (omega arith)
sites_count (suc n) (size ∷ l) e =
    let f : First n size l = first n size l e in
    ap (λ (w : ℕ × List Site). length w.1) f.is ∙ ap suc (sites_count n (drop (size + 12) l) f.rest)

-- and have at most 61 bytes each
pub sites_short : (n : ℕ) (l : List ℕ) → (read_sites n l).0 ≡ done → length l ≤ n * 61
unfolding read_sites
sites_short zero [] e = omega arith
sites_short zero (b ∷ l) e = absurd (omega arith)
sites_short (suc n) [] e = absurd (omega arith)
sites_short (suc n) (size ∷ l) e =
    let f : First n size l = first n size l e in
    let most = leb-true size 48 (and_parts (leb 1 size) (leb size 48) f.range).1 in
    omega (arith, f.room, length-drop (size + 12) l, sites_short n (drop (size + 12) l) f.rest)

-- a site, and what follows it, are the bytes that it was read from
site_back : (size : ℕ) (l : List ℕ) → ltb size 256 ≡ true → all_bytes l ≡ true → size + 12 ≤ length l
    → site_bytes (first_site size l) ++ drop (size + 12) l ≡ size ∷ l
unfolding site_bytes
site_back size l k b h =
    let blocks = number_back l (size + 8) 4 (size + 12) b (omega arith) h in
    let live = number_back l size 8 (size + 8) b refl (omega arith) in
    simp append_assoc (rw (blocks, live, take-append-drop size l, length-take-le size l (omega arith), byte_bytes size (ltb-true size 256 k)))

-- n sites spell the bytes that they were read from
pub sites_back : (n : ℕ) (l : List ℕ) → all_bytes l ≡ true → (read_sites n l).0 ≡ done → sites_bytes (read_sites n l).1 ≡ l
unfolding read_sites sites_bytes every
sites_back zero [] b e = refl
sites_back zero (x ∷ l) b e = absurd (omega arith)
sites_back (suc n) [] b e = absurd (omega arith)
sites_back (suc n) (size ∷ l) b e =
    let f : First n size l = first n size l e in
    let p = and_parts (ltb size 256) (all_bytes l) b in
    let rest : List ℕ = drop (size + 12) l in
    ap (λ (w : ℕ × List Site). sites_bytes w.1) f.is
    ∙ ap (λ (r : List ℕ). site_bytes (first_site size l) ++ r) (sites_back n rest (every_drop _ (size + 12) l p.1) f.rest)
    ∙ site_back size l p.0 p.1 f.room

-- no check of a report that fails has the number of a call that is done
pub sites_refusing : (w : ℕ × List Site) → Refusing (sites_checks w)
sites_refusing w = more (eqb-false w.0 done) (refuses _ _ none)

pub read_refusing : (s : List ℕ) → Refusing (read_checks s)
read_refusing s = refuses _ _ (refuses _ _ (refuses _ _ (refuses _ _ (refuses _ _ (refuses _ _ (sites_refusing (sites_in s)))))))

-- where no check has a number over this one, no number over it comes back
pub at_most : (most : ℕ) (cs : List Check) → numbers_at_most most cs ≡ true → first_failing cs ≤ most
at_most most [] e = omega arith
at_most most (c ∷ cs) e =
    let p = and_parts (leb c.number most) (numbers_at_most most cs) e in
    either c.passes (leb-true c.number most p.0) (at_most most cs p.1)
  where
    either : (b : Bool) → c.number ≤ most → first_failing cs ≤ most → cond b (first_failing cs) c.number ≤ most
    either true k l = l
    either false k l = k

-- no number of reading is over 16
sites_read_most : (n : ℕ) (l : List ℕ) → (read_sites n l).0 ≤ 16
unfolding read_sites
sites_read_most zero [] = omega arith
sites_read_most zero (x ∷ l) = omega arith
sites_read_most (suc n) [] = omega arith
sites_read_most (suc n) (size ∷ l) =
    either (leb 1 size && leb size 48) (leb (size + 12) (length l)) (read_sites n (drop (size + 12) l)) (sites_read_most n (drop (size + 12) l))
  where
    either : (a b : Bool) (w : ℕ × List Site) → w.0 ≤ 16
        → (cond a (cond b (with_site (first_site size l) w) (sites_misplaced, [])) (label_length_out_of_range, [])).0 ≤ 16
    either true true w k = k
    either true false w k = omega arith
    either false b w k = omega arith

pub read_most : (s : List ℕ) → first_failing (read_checks s) ≤ 16
read_most s = at_most 16 (read_checks s) (rw (le-leb (sites_in s).0 16 (sites_read_most (number_at s 43 2) (drop 45 (before_tag s)))))

module _ (s : List ℕ) where
  -- each check that passes says its part
  all_passed : Pass (read_checks s) → Passed s
  all_passed (and long (and count (and version (and known (and tag (and few (and placed (and live all)))))))) = record {
    long = leb-true smallest_report (length s) long;
    count = eqb-true (number_at s 0 4) (length s - 4) count;
    version = eqb-true (number_at s 4 1) 1 version;
    known = known;
    tag_fits = leb-true (45 + tag_size_in s) (length s) tag;
    few = leb-true (number_at s 43 2) 64 few;
    placed = eqb-true (sites_in s).0 done placed;
    live = leb-true (live_of (sites_in s).1) largest_total live;
    sites = sites_count (number_at s 43 2) (drop 45 (before_tag s)) (eqb-true (sites_in s).0 done placed);
  }

  pub passed : first_failing (read_checks s) ≡ done → Passed s
  passed e = all_passed (done_passes (read_checks s) (read_refusing s) e)

  -- and such a report is let pass: what is checked after reading decides
  pub passes_then : Passed s → (cs : List Check) → first_failing (read_checks s ++ cs) ≡ first_failing cs
  passes_then p cs =
      rw (
        le-leb smallest_report (length s) p.long,
        eq-eqb (number_at s 0 4) (length s - 4) p.count,
        eq-eqb (number_at s 4 1) 1 p.version,
        p.known,
        le-leb (45 + tag_size_in s) (length s) p.tag_fits,
        le-leb (number_at s 43 2) 64 p.few,
        eq-eqb (sites_in s).0 done p.placed,
        le-leb (live_of (sites_in s).1) largest_total p.live,
      )

  pub passes : Passed s → first_failing (read_checks s) ≡ done
  passes p = passes_then p []

  -- the most bytes before a tag, and the smallest and the largest report
  pub short : Passed s → length (before_tag s) ≤ 3949
  short p = omega (arith, p.few, length-drop 45 (before_tag s), sites_short (number_at s 43 2) (drop 45 (before_tag s)) p.placed)

  pub sizes : Passed s → (smallest_report ≤ length s) × (length s ≤ largest_report)
  sizes p =
      let before = length-take-le (tag_start s) s (omega arith) in
      (p.long, omega (arith, short p, before, tag_most (number_at s 5 1)))

  -- a report that is let pass reads as its fields
  pub read_fields : (read_of s).0 ≡ done → (read_of s).1 ≡ fields_of s
  unfolding read_of
  read_fields e = rw (eq-eqb (first_failing (read_checks s)) done e)

  module _ (w : WellFormed s) where
    pub well_formed_passed : Passed s
    unfolding read_of
    well_formed_passed = passed w.reads

    -- the tag starts after the number of sites, and in the report
    pub tag_low : 45 ≤ tag_start s
    tag_low = omega (arith, well_formed_passed.tag_fits)

    pub tag_high : tag_start s ≤ length s
    tag_high = omega (arith, well_formed_passed.tag_fits)

    -- a number before the sites, spelled before what follows it up to the tag
    spelled : (at n end : ℕ) → at + n ≡ end → end ≤ 45 → bytes n (number_at s at n) ++ slice end (tag_start s) s ≡ slice at (tag_start s) s
    spelled at n end e h = number_between s (tag_start s) at n end w.bytes e (omega (arith, tag_low)) tag_high

    -- the fields after the attempt spell the bytes after it
    pub after_attempt_lem : after_attempt (fields_of s) ≡ slice 35 (tag_start s) s
    after_attempt_lem =
        let p : Passed s = well_formed_passed in
        let sites = sites_back (number_at s 43 2) (drop 45 (before_tag s)) (every_drop _ 45 (before_tag s) (every_take _ (tag_start s) s w.bytes)) p.placed in
        rw (p.sites, sites, spelled 43 2 45 refl (lit≤ tt), spelled 35 8 43 refl (lit≤ tt))

    -- the fields spell all bytes before the tag
    pub layout : before_tag s ≡ bytes_of (fields_of s)
    unfolding bytes_of
    layout =
        rw (
          after_attempt_lem,
          spelled 34 1 35 refl (lit≤ tt),
          spelled 26 8 34 refl (lit≤ tt),
          spelled 18 8 26 refl (lit≤ tt),
          spelled 10 8 18 refl (lit≤ tt),
          spelled 6 4 10 refl (lit≤ tt),
          spelled 5 1 6 refl (lit≤ tt),
          spelled 4 1 5 refl (lit≤ tt),
          spelled 0 4 4 refl (lit≤ tt),
        )
