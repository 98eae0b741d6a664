-- Proved: the round trip of a report, both ways: what was written reads back as what was handed over, and passes the tag check; and a
-- report whose tag is right, read and written again, comes out byte for byte. Assumes nothing.
use Rattle.std.specs.Prelude.{◌≡◌, refl, Bool, true, ◌&&◌, leb, length, take, drop}
use Rattle.std.proofs.Math.Path.{sym, ap}
use Rattle.std.proofs.Common.{subst, ◌∙◌, arith, length-drop, take_at, drop_at, length-take-le, leb-true, ltb-true}
use mathlib.Core.List.{List, [], ◌∷◌, ◌++◌, map, flatten}
use Prim.Native.Nat.{ℕ, zero, suc, ◌+◌, ◌^◌, ◌≤◌, ◌<◌}
use Rattle.std.proofs.Math.Dec.{ltb}
use Rattle.std.proofs.Math.ListN.{length-append, take-append-drop}
use Rattle.std.proofs.lemmas.List.{length-map}
use Rattle.octets.specs.Every.{every, all_bytes}
use Rattle.octets.specs.Every.Laws.{and_parts, every_append, every_take, every_drop}
use Rattle.octets.specs.Number.{number_at}
use Rattle.octets.specs.Number.Spelled.{bytes_all}
use Rattle.octets.specs.Sums.{sum_of, largest_total}
use Rattle.algorithm.specs.Refusals.{done, unknown_hash}
use Rattle.algorithm.specs.Checks.{check, Pass}
use Rattle.algorithm.specs.Checks.Laws.{done_passes, pass_append}
use Rattle.hmac.specs.Hmac.{tag_of}
use Rattle.hmac.specs.Hmac.Laws.{tag_length_lem, tag_bytes}
use Rattle.report.specs.Layout.{largest_report, Site, Fields, site_bytes, sites_bytes, bytes_of, tag_size_of, live_of}
use Rattle.report.specs.Reading.{names_hash, hash_named, hash_in, tag_size_in, tag_start, before_tag, read_sites, sites_in, read_checks, fields_of, read_of, WellFormed}
use Rattle.report.specs.Inside.{First, Passed}
use Rattle.report.specs.Reading.Laws.{tag_half, tag_most, first, passes, well_formed_passed, tag_high, read_fields, layout, read_refusing}
use Rattle.report.specs.Writing.{Columns, columns, site_from, sites_from, sites_of, fields_from, tag_for, report_of, label_fits, Typed, SitesFit, FieldsFit, columns_of}
use Rattle.report.specs.Writing.SitesFit.{nothing, also}
use Rattle.report.specs.Writing.Reads.{sites_most, body_length, hash_read, before_tag_lem, from_tag, whole_passes, read_whole}
use Rattle.report.specs.Writing.Inside.{ColumnsFit, Planned, Accepted, plan_checks}
use Rattle.report.specs.Calls.{SiteAt, Written, reading_of, site_of, found_site, site_answer, label_answer, key_checks, check_answer, column_checks, wrote_report, write_answer, report_in, heading_read, places_from, columns_at, columns_read}
use Rattle.report.specs.Calls.Laws.{check_tag, there_done, site_there, label_there}
use Rattle.report.specs.Calls.Write.{plan_parts, accepted, write_accepted, write_number}
use Rattle.report.specs.declared.writing.Heading.{Heading}

-- sites from columns that no check refuses fit the layout
sites_fit : (labels lengths live blocks : List ℕ) → every label_fits lengths ≡ true → length labels ≡ sum_of lengths → sum_of live ≤ largest_total
    → every (λ b. ltb b (256 ^ 4)) blocks ≡ true → SitesFit (sites_from labels lengths live blocks)
unfolding sites_from every sum_of
sites_fit labels [] live blocks l w s b = nothing
sites_fit labels (n ∷ lengths) [] blocks l w s b = nothing
sites_fit labels (n ∷ lengths) (a ∷ live) [] l w s b = nothing
sites_fit labels (n ∷ lengths) (a ∷ live) (k ∷ blocks) l w s b =
    let label = and_parts (label_fits n) (every label_fits lengths) l in
    let range = and_parts (leb 1 n) (leb n 48) label.0 in
    let block = and_parts (ltb k (256 ^ 4)) (every (λ b. ltb b (256 ^ 4)) blocks) b in
    let size : length (take n labels) ≡ n = length-take-le n labels (omega arith) in
    also {x = site_from (take n labels) a k}
    (record {
      least = omega (arith, leb-true 1 n range.0);
      most = omega (arith, leb-true n 48 range.1);
      live = omega arith;
      blocks = ltb-true k (256 ^ 4) block.0;
    })
    (sites_fit (drop n labels) lengths live blocks label.1 (omega (arith, length-drop n labels)) (omega arith) block.1)

-- there are as many as there are lengths, with the sum of the live bytes
pub sites_length : (labels lengths live blocks : List ℕ) → length live ≡ length lengths → length blocks ≡ length lengths
    → length (sites_from labels lengths live blocks) ≡ length lengths
unfolding sites_from
sites_length labels [] live blocks a b = refl
sites_length labels (n ∷ lengths) [] blocks a b = absurd (omega arith)
sites_length labels (n ∷ lengths) (x ∷ live) [] a b = absurd (omega arith)
sites_length labels (n ∷ lengths) (x ∷ live) (k ∷ blocks) a b =
    ap suc (sites_length (drop n labels) lengths live blocks (omega arith) (omega arith))

sites_live : (labels lengths live blocks : List ℕ) → length live ≡ length lengths → length blocks ≡ length lengths
    → live_of (sites_from labels lengths live blocks) ≡ sum_of live
unfolding sites_from live_of sum_of
sites_live labels [] [] blocks a b = refl
sites_live labels [] (x ∷ live) blocks a b = absurd (omega arith)
sites_live labels (n ∷ lengths) [] blocks a b = absurd (omega arith)
sites_live labels (n ∷ lengths) (x ∷ live) [] a b = absurd (omega arith)
sites_live labels (n ∷ lengths) (x ∷ live) (k ∷ blocks) a b =
    ap (λ (s : ℕ). x + s) (sites_live (drop n labels) lengths live blocks (omega arith) (omega arith))

-- and their bytes are bytes, as those of the labels are
sites_bytes_lem : (labels lengths live blocks : List ℕ) → all_bytes labels ≡ true → all_bytes (sites_bytes (sites_from labels lengths live blocks)) ≡ true
unfolding sites_from sites_bytes site_bytes every
sites_bytes_lem labels [] live blocks b = refl
sites_bytes_lem labels (n ∷ lengths) [] blocks b = refl
sites_bytes_lem labels (n ∷ lengths) (x ∷ live) [] b = refl
sites_bytes_lem labels (n ∷ lengths) (x ∷ live) (k ∷ blocks) b =
    simp (every_append (λ x. ltb x 256), bytes_all)
    (rw (every_take (λ x. ltb x 256) n labels b, sites_bytes_lem (drop n labels) lengths live blocks (every_drop (λ x. ltb x 256) n labels b)))

-- the tag of fields has its size
pub tag_size_lem : (f : Fields) (key : List ℕ) → length (tag_for f key) ≡ tag_size_of f.hash
tag_size_lem f key = tag_length_lem (hash_named f.hash) key (tag_size_of f.hash) (bytes_of f) (omega (arith, tag_half f.hash))

-- the report of fields that fit
module _ (f : Fields) (fit : FieldsFit f) (key : List ℕ) where
  -- reads back
  pub report_reads : read_of (report_of f key) ≡ (done, f)
  unfolding report_of
  report_reads = read_whole f fit (tag_for f key) (tag_size_lem f key)

  -- has the right tag
  pub report_checks_lem : Pass (key_checks key) → check_answer (report_of f key) key ≡ done
  unfolding report_of
  report_checks_lem k =
      let s : List ℕ = bytes_of f ++ tag_for f key in
      let number : number_at s 5 1 ≡ f.hash = hash_read f fit (tag_for f key) (tag_size_lem f key) in
      let body : before_tag s ≡ bytes_of f = before_tag_lem f fit (tag_for f key) (tag_size_lem f key) in
      let tag : tag_of (hash_in s) key (tag_size_in s) (before_tag s) ≡ tag_for f key =
      λ i. tag_of (hash_named (number i)) key (tag_size_of (number i)) (body i)
      in
      let read : Pass (read_checks s) = done_passes (read_checks s) (read_refusing s) (passes s (whole_passes f fit (tag_for f key) (tag_size_lem f key))) in
      (check_tag s key).1 ((read, k), from_tag f fit (tag_for f key) (tag_size_lem f key) ∙ sym tag)

  -- and is bytes where its sites are
  report_bytes : all_bytes (sites_bytes f.sites) ≡ true → all_bytes (report_of f key) ≡ true
  unfolding report_of bytes_of
  report_bytes b =
      simp (every_append (λ x. ltb x 256), bytes_all) (rw (b, tag_bytes (hash_named f.hash) key (tag_size_of f.hash) (bytes_of f)))

-- a write that is accepted
module _ (h : Heading) (c : Columns) (key out : List ℕ) where
  -- makes fields that fit
  made_fits : Typed h c → Planned h.hash c → FieldsFit (fields_from h (sites_of c))
  made_fits t p =
      let r : ColumnsFit c = p.columns_fit in
      record {
        count = refl;
        version = refl;
        known = p.known;
        tenant = t.tenant;
        machine = t.machine;
        report = t.report;
        sent = t.sent;
        attempt = t.attempt;
        memory = t.memory;
        few = omega (arith, sites_length c.labels c.lengths c.live c.blocks r.live_many r.blocks_many, r.few);
        sites = sites_fit c.labels c.lengths c.live c.blocks r.lengths_fit r.labels_add_up r.sum t.blocks;
        live = omega (arith, sites_live c.labels c.lengths c.live c.blocks r.live_many r.blocks_many, r.sum);
      }

  module _ (d : (write_answer h c key out).0.number ≡ done) where
    ok : Accepted h c key out
    ok = accepted h c key out (sym (write_number h c key out) ∙ d)

    abbrev whole : List ℕ
    whole = report_of (fields_from h (sites_of c)) key

    -- the bytes that it leaves are the report
    pub write_report : report_in (write_answer h c key out) ≡ whole
    write_report = ap report_in (write_accepted h c key out ok) ∙ take_at whole (drop (length whole) out) (length whole) refl

    -- while those past them stay
    pub write_stays : drop (write_answer h c key out).0.length (write_answer h c key out).1 ≡ drop (write_answer h c key out).0.length out
    write_stays =
        ap (λ (r : Written × List ℕ). drop r.0.length r.1) (write_accepted h c key out ok)
        ∙ drop_at whole (drop (length whole) out) (length whole) refl
        ∙ ap (λ (r : Written × List ℕ). drop r.0.length out) (sym (write_accepted h c key out ok))

    module _ (t : Typed h c) where
      fit : FieldsFit (fields_from h (sites_of c))
      fit = made_fits t ok.planned

      -- they read back as the fields and the sites that were handed over
      pub write_reads : read_of (report_in (write_answer h c key out)) ≡ (done, fields_from h (sites_of c))
      write_reads = ap read_of write_report ∙ report_reads (fields_from h (sites_of c)) fit key

      -- pass the tag check under the same key
      pub write_checks_lem : check_answer (report_in (write_answer h c key out)) key ≡ done
      write_checks_lem =
          ap (λ (s : List ℕ). check_answer s key) write_report
          ∙ report_checks_lem (fields_from h (sites_of c)) fit key ok.key_passes

      -- and are a well-formed report
      pub write_well_formed : WellFormed (report_in (write_answer h c key out))
      write_well_formed = record {
        bytes =
            ap all_bytes write_report
            ∙ report_bytes (fields_from h (sites_of c)) fit key (sites_bytes_lem c.labels c.lengths c.live c.blocks t.labels);
        reads = ap (λ (r : ℕ × Fields). r.0) write_reads;
      }

-- sites taken apart and made again
sites_again : (xs : List Site) → sites_of (columns_of xs) ≡ xs
unfolding sites_from flatten
sites_again [] = refl
sites_again (x ∷ xs) =
    let others : List ℕ = flatten (map (λ y. y.label) xs) in
    let label : take (length x.label) (x.label ++ others) ≡ x.label = take_at x.label others (length x.label) refl in
    let rest : drop (length x.label) (x.label ++ others) ≡ others = drop_at x.label others (length x.label) refl in
    (λ i.
    site_from (label i) x.live x.blocks
    ∷ sites_from (rest i) (map (λ y. length y.label) xs) (map (λ y. y.live) xs) (map (λ y. y.blocks) xs))
    ∙ ap (λ (r : List Site). x ∷ r) (sites_again xs)

-- columns that fit, made into sites and taken apart
columns_again : (labels lengths live blocks : List ℕ) → length live ≡ length lengths → length blocks ≡ length lengths → length labels ≡ sum_of lengths
    → columns_of (sites_from labels lengths live blocks) ≡ columns labels lengths live blocks
unfolding sites_from flatten sum_of
columns_again [] [] [] [] a b w = refl
columns_again (x ∷ labels) [] live blocks a b w = absurd (omega arith)
columns_again [] [] (x ∷ live) blocks a b w = absurd (omega arith)
columns_again [] [] [] (x ∷ blocks) a b w = absurd (omega arith)
columns_again labels (n ∷ lengths) [] blocks a b w = absurd (omega arith)
columns_again labels (n ∷ lengths) (x ∷ live) [] a b w = absurd (omega arith)
columns_again labels (n ∷ lengths) (x ∷ live) (k ∷ blocks) a b w =
    let size : length (take n labels) ≡ n = length-take-le n labels (omega arith) in
    let rest = columns_again (drop n labels) lengths live blocks (omega arith) (omega arith) (omega (arith, length-drop n labels)) in
    (λ i. columns (take n labels ++ (rest i).labels) (size i ∷ (rest i).lengths) (x ∷ (rest i).live) (k ∷ (rest i).blocks))
    ∙ (λ i. columns (take-append-drop n labels i) (n ∷ lengths) (x ∷ live) (k ∷ blocks))

-- the sums of the columns are those of the sites
labels_length : (xs : List Site) → length (flatten (map (λ x. x.label) xs)) ≡ sum_of (map (λ x. length x.label) xs)
unfolding flatten sum_of
labels_length [] = refl
labels_length (x ∷ xs) =
    length-append x.label (flatten (map (λ y. y.label) xs)) ∙ ap (λ (n : ℕ). length x.label + n) (labels_length xs)

live_sum : (xs : List Site) → sum_of (map (λ x. x.live) xs) ≡ live_of xs
unfolding live_of sum_of
live_sum [] = refl
live_sum (x ∷ xs) = ap (λ (n : ℕ). x.live + n) (live_sum xs)

-- sites that were read have labels of a length that may be
labels_range : (n : ℕ) (l : List ℕ) → (read_sites n l).0 ≡ done → every label_fits (map (λ x. length x.label) (read_sites n l).1) ≡ true
unfolding read_sites every
labels_range zero [] e = refl
labels_range zero (b ∷ l) e = absurd (omega arith)
labels_range (suc n) [] e = absurd (omega arith)
labels_range (suc n) (size ∷ l) e =
    let f : First n size l = first n size l e in
    let label : length (take size l) ≡ size = length-take-le size l (omega (arith, f.room)) in
    let rest : Bool = every label_fits (map (λ x. length x.label) (read_sites n (drop (size + 12) l)).1) in
    ap (λ (w : ℕ × List Site). every label_fits (map (λ x. length x.label) w.1)) f.is
    ∙ (λ i. label_fits (label i) && rest)
    ∙ (λ i. f.range i && rest)
    ∙ labels_range n (drop (size + 12) l) f.rest

-- what is asked of every place is what every site has
asked : {A : Type 0} (f : ℕ → A) (g : Site → A) (xs : List Site) (place : ℕ) → ((i : ℕ) → i < length xs → f (place + i) ≡ g (site_of xs i))
    → map f (places_from place (length xs)) ≡ map g xs
unfolding places_from
asked f g [] place e = refl
asked f g (x ∷ xs) place e =
    let here : place + 0 ≡ place = omega arith in
    let first_is : f place ≡ g x = ap f (sym here) ∙ e 0 (omega arith) in
    let later : (i : ℕ) → i < length xs → f (suc place + i) ≡ g (site_of xs i) =
    λ i h. let shift : suc place + i ≡ place + suc i = omega arith in ap f shift ∙ e (suc i) (omega arith)
    in
    λ i. first_is i ∷ asked f g xs (suc place) later i

-- a well-formed report
module _ (s : List ℕ) (w : WellFormed s) where
  p : Passed s
  p = well_formed_passed s w

  read_are : (read_of s).1 ≡ fields_of s
  read_are = read_fields s w.reads

  -- the columns that the calls answer, place by place, are those of the sites that reading gives
  pub columns_answered : columns_read s ≡ columns_of (read_of s).1.sites
  columns_answered =
      let xs : List Site = (sites_in s).1 in
      let label : (i : ℕ) → i < length xs → (label_answer s (0 + i)).1 ≡ (site_of xs i).label =
      λ i h. let e : 0 + i ≡ i = omega arith in ap (λ (j : ℕ). (label_answer s j).1) e ∙ label_there s i (there_done s i p h)
      in
      let site : (i : ℕ) → i < length xs → site_answer s (0 + i) ≡ found_site xs i =
      λ i h. let e : 0 + i ≡ i = omega arith in ap (site_answer s) e ∙ site_there s i p h
      in
      let labels = asked (λ i. (label_answer s i).1) (λ x. x.label) xs 0 label in
      let lengths = asked (λ i. (site_answer s i).length) (λ x. length x.label) xs 0 (λ i h. ap (λ (r : SiteAt). r.length) (site i h)) in
      let live = asked (λ i. (site_answer s i).live) (λ x. x.live) xs 0 (λ i h. ap (λ (r : SiteAt). r.live) (site i h)) in
      let blocks = asked (λ i. (site_answer s i).blocks) (λ x. x.blocks) xs 0 (λ i h. ap (λ (r : SiteAt). r.blocks) (site i h)) in
      ap (λ (f : Fields). columns_at s (places_from 0 (length f.sites))) read_are
      ∙ (λ i. columns (flatten (labels i)) (lengths i) (live i) (blocks i))
      ∙ sym (ap (λ (f : Fields). columns_of f.sites) read_are)

  -- no check of columns refuses them
  fit_again : ColumnsFit (columns_read s)
  fit_again =
      let xs : List Site = (sites_in s).1 in
      subst ColumnsFit (sym (columns_answered ∙ ap (λ (f : Fields). columns_of f.sites) read_are))
      (record {
        live_many = length-map xs (λ x. x.live) ∙ sym (length-map xs (λ x. length x.label));
        blocks_many = length-map xs (λ x. x.blocks) ∙ sym (length-map xs (λ x. length x.label));
        few = omega (arith, length-map xs (λ x. length x.label), p.sites, p.few);
        lengths_fit = labels_range (number_at s 43 2) (drop 45 (before_tag s)) p.placed;
        labels_add_up = labels_length xs;
        sum = omega (arith, live_sum xs, p.live);
      })

  -- the count and the version are those that writing makes
  fields_again : fields_from (heading_read (reading_of (read_of s))) (read_of s).1.sites ≡ fields_of s
  fields_again =
      let version : 1 ≡ number_at s 4 1 = sym p.version in
      let body : length (before_tag s) ≡ tag_start s = length-take-le (tag_start s) s (tag_high s w) in
      let count : 41 + length (sites_bytes (sites_in s).1) + tag_size_in s ≡ number_at s 0 4 =
      omega (arith, body, ap length (layout s w), body_length (fields_of s), p.count, p.tag_fits)
      in
      ap (λ (f : Fields). fields_from (heading_read (reading_of (done, f))) f.sites) read_are
      ∙ (λ i.
      record {
        count = count i;
        version = version i;
        hash = number_at s 5 1;
        tenant = number_at s 6 4;
        machine = number_at s 10 8;
        report = number_at s 18 8;
        sent = number_at s 26 8;
        attempt = number_at s 34 1;
        memory = number_at s 35 8;
        sites = (sites_in s).1;
      })

  abbrev heading : Heading
  heading = heading_read (reading_of (read_of s))

  -- whose tag check answers 0 under a key
  module _ (key : List ℕ) (right-tag : check_answer s key ≡ done) where
    -- is the report of its fields
    spelled_again : report_of (fields_of s) key ≡ s
    unfolding report_of
    spelled_again =
        let body : bytes_of (fields_of s) ≡ before_tag s = sym (layout s w) in
        (λ i. body i ++ tag_of (hash_in s) key (tag_size_in s) (body i))
        ∙ ap (λ (t : List ℕ). before_tag s ++ t) (sym ((check_tag s key).0 right-tag).1)
        ∙ take-append-drop (tag_start s) s

    report_again : report_of (fields_from heading (sites_of (columns_read s))) key ≡ s
    report_again =
        ap (λ (c : Columns). report_of (fields_from heading (sites_of c)) key) columns_answered
        ∙ ap (λ (xs : List Site). report_of (fields_from heading xs) key) (sites_again (read_of s).1.sites)
        ∙ ap (λ (f : Fields). report_of f key) fields_again
        ∙ spelled_again

    accepted_again : (out : List ℕ) → length s ≤ length out → Accepted heading (columns_read s) key out
    accepted_again out fits = record {
      planned = record { known = ap (λ (f : Fields). names_hash f.hash) read_are ∙ p.known; columns_fit = fit_again };
      key_passes = ((check_tag s key).0 right-tag).0.1;
      room = omega (arith, ap length report_again);
    }

    -- so what the calls answer on it, written under that key into any buffer that is long enough, is the report byte for byte
    pub write_again : (out : List ℕ) → length s ≤ length out → write_answer heading (columns_read s) key out ≡ wrote_report s out
    write_again out fits =
        write_accepted heading (columns_read s) key out (accepted_again out fits) ∙ ap (λ (l : List ℕ). wrote_report l out) report_again

-- and what the calls answer on a written report is what was handed over
module _ (h : Heading) (c : Columns) (key out : List ℕ) (d : (write_answer h c key out).0.number ≡ done) (t : Typed h c) where
  abbrev wrote : List ℕ
  wrote = report_in (write_answer h c key out)

  pub heading_back : heading_read (reading_of (read_of wrote)) ≡ h
  heading_back = ap (λ (r : ℕ × Fields). heading_read (reading_of r)) (write_reads h c key out d t)

  pub columns_back : columns_read wrote ≡ c
  columns_back =
      let r : ColumnsFit c = (ok h c key out d).planned.columns_fit in
      columns_answered wrote (write_well_formed h c key out d t)
      ∙ ap (λ (x : ℕ × Fields). columns_of x.1.sites) (write_reads h c key out d t)
      ∙ columns_again c.labels c.lengths c.live c.blocks r.live_many r.blocks_many r.labels_add_up

-- a buffer of the largest report's size is never too short: the call is done where every other check passes
module _ (h : Heading) (c : Columns) (key out : List ℕ) (t : Typed h c) where
  report_most : Planned h.hash c → length (report_of (fields_from h (sites_of c)) key) ≤ largest_report
  unfolding report_of
  report_most p =
      let f : Fields = fields_from h (sites_of c) in
      let fit : FieldsFit f = made_fits h c key out t p in
      omega (arith, length-append (bytes_of f) (tag_for f key), body_length f, tag_size_lem f key, tag_most h.hash, sites_most fit.sites, fit.few)

  pub write_room : largest_report ≤ length out → Pass (check (names_hash h.hash) unknown_hash ∷ column_checks c ++ key_checks key)
      → (write_answer h c key out).0.number ≡ done
  write_room l passes =
      let parts = (pass_append (plan_checks h.hash c) (key_checks key)).0 passes in
      let plan : Planned h.hash c = plan_parts h.hash c parts.0 in
      ap (λ (r : Written × List ℕ). r.0.number)
      (write_accepted h c key out (record { planned = plan; key_passes = parts.1; room = omega (arith, report_most plan) }))
