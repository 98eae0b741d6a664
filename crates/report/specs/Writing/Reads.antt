-- Proved: what fits the layout and is spelled reads back: sites, then fields with a tag after them. Assumes nothing.
use Rattle.std.specs.Prelude.{◌≡◌, Bool, true, false, ◌||◌, ℕ, suc, ◌+◌, ◌*◌, ◌^◌, ◌≤◌, ◌<◌, eqb, length, take, drop}
use Rattle.std.proofs.Math.Path.{refl}
use Rattle.std.proofs.Common.{sym, ap, ap₂, subst, ◌∙◌, true≢false, arith, lit≤, length-append, take_at, drop_at}
use mathlib.Core.List.{List, ◌∷◌, ◌++◌, append_assoc}
use borrow.Author.Tests.{le-leb, eqb-true}
use Rattle.octets.specs.Number.{number_at, bytes}
use Rattle.octets.specs.Number.Laws.{bytes_length, number_front}
use Rattle.octets.specs.Number.Spelled.{byte_bytes, spelled_number, spelled_after}
use Rattle.octets.specs.Sums.{largest_total}
use Rattle.algorithm.specs.Refusals.{done}
use Rattle.report.specs.Layout.{Site, Fields, site_bytes, sites_bytes, bytes_of, tag_size_of, live_of}
use Rattle.report.specs.Reading.{names_hash, tag_size_in, tag_start, before_tag, first_site, with_site, read_sites, sites_in, fields_of, read_of}
use Rattle.report.specs.Reading.Laws.{tag_least, tag_most, passes}
use Rattle.report.specs.Inside.{Passed}
use Rattle.report.specs.Writing.{SiteFits, SitesFit, FieldsFit}
use Rattle.report.specs.Writing.SitesFit.{nothing, also}

-- the bytes of a site
pub site_length : (x : Site) → length (site_bytes x) ≡ length x.label + 13
unfolding site_bytes
site_length x = simp (length-append, bytes_length) (omega arith)

-- at most 61 to a site
pub sites_most : {xs : List Site} → SitesFit xs → length (sites_bytes xs) ≤ length xs * 61
unfolding sites_bytes
sites_most nothing = omega arith
sites_most (also {x} {xs} f r) = omega (arith, length-append (site_bytes x) (sites_bytes xs), site_length x, sites_most r, f.most)

-- a site that was spelled after its label's length reads as itself, and what follows it stands after it
module _ (x : Site) (f : SiteFits x) (rest : List ℕ) where
  abbrev size : ℕ
  size = length x.label

  after_size : List ℕ
  after_size = (x.label ++ (bytes 8 x.live ++ bytes 4 x.blocks)) ++ rest

  split : site_bytes x ++ rest ≡ size ∷ after_size
  unfolding site_bytes after_size
  split = rw (byte_bytes (length x.label) (omega (arith, f.most)))

  at_label : after_size ≡ x.label ++ (bytes 8 x.live ++ (bytes 4 x.blocks ++ rest))
  unfolding after_size
  at_label = simp append_assoc

  at_live : drop size after_size ≡ bytes 8 x.live ++ (bytes 4 x.blocks ++ rest)
  at_live = ap (drop size) at_label ∙ drop_at x.label (bytes 8 x.live ++ (bytes 4 x.blocks ++ rest)) size refl

  at_blocks : drop (size + 8) after_size ≡ bytes 4 x.blocks ++ rest
  at_blocks = spelled_after after_size size 8 x.live (bytes 4 x.blocks ++ rest) at_live

  at_rest : drop (size + 12) after_size ≡ rest
  at_rest =
      let e : size + 12 ≡ size + 8 + 4 = omega arith in
      ap (λ (n : ℕ). drop n after_size) e ∙ spelled_after after_size (size + 8) 4 x.blocks rest at_blocks

  site_reads : first_site size after_size ≡ x
  site_reads =
      let label = ap (take size) at_label ∙ take_at x.label (bytes 8 x.live ++ (bytes 4 x.blocks ++ rest)) size refl in
      let live = spelled_number after_size size 8 x.live (bytes 4 x.blocks ++ rest) at_live f.live in
      let blocks = spelled_number after_size (size + 8) 4 x.blocks rest at_blocks f.blocks in
      λ i. record { label = label i; live = live i; blocks = blocks i }

  site_room : size + 12 ≤ length after_size
  unfolding after_size
  site_room = simp (length-append, bytes_length) (omega arith)

  first_reads : (n : ℕ) → read_sites (suc n) (site_bytes x ++ rest) ≡ with_site x (read_sites n rest)
  unfolding read_sites
  first_reads n =
      rw (
        split,
        le-leb 1 size f.least,
        le-leb size 48 f.most,
        le-leb (size + 12) (length after_size) site_room,
        site_reads,
        at_rest,
      )

-- sites that fit read back as themselves
pub sites_read : {xs : List Site} → SitesFit xs → read_sites (length xs) (sites_bytes xs) ≡ (done, xs)
unfolding read_sites sites_bytes
sites_read nothing = refl
sites_read (also {x} {xs} f r) = first_reads x f (sites_bytes xs) (length xs) ∙ ap (with_site x) (sites_read r)

-- a number that names a hash is a byte
hash_small : (n : ℕ) → names_hash n ≡ true → n < 256 ^ 1
hash_small n e = either (eqb n 1) (eqb n 2) refl refl e
  where
    either : (a b : Bool) → eqb n 1 ≡ a → eqb n 2 ≡ b → (a || b) ≡ true → n < 256 ^ 1
    either true b one two h = omega (arith, eqb-true n 1 one)
    either false true one two h = omega (arith, eqb-true n 2 two)
    either false false one two h = absurd (true≢false (sym h))

-- what fields spell, from each place on
module _ (f : Fields) where
  abbrev from43 : List ℕ
  from43 = bytes 2 (length f.sites) ++ sites_bytes f.sites

  abbrev from35 : List ℕ
  from35 = bytes 8 f.memory ++ from43

  abbrev from34 : List ℕ
  from34 = bytes 1 f.attempt ++ from35

  abbrev from26 : List ℕ
  from26 = bytes 8 f.sent ++ from34

  abbrev from18 : List ℕ
  from18 = bytes 8 f.report ++ from26

  abbrev from10 : List ℕ
  from10 = bytes 8 f.machine ++ from18

  abbrev from6 : List ℕ
  from6 = bytes 4 f.tenant ++ from10

  abbrev from5 : List ℕ
  from5 = bytes 1 f.hash ++ from6

  abbrev from4 : List ℕ
  from4 = bytes 1 f.version ++ from5

  at0 : drop 0 (bytes_of f) ≡ bytes 4 f.count ++ from4
  unfolding bytes_of
  at0 = refl

  at4 : drop 4 (bytes_of f) ≡ from4
  at4 = spelled_after (bytes_of f) 0 4 f.count from4 at0

  at5 : drop 5 (bytes_of f) ≡ from5
  at5 = spelled_after (bytes_of f) 4 1 f.version from5 at4

  at6 : drop 6 (bytes_of f) ≡ from6
  at6 = spelled_after (bytes_of f) 5 1 f.hash from6 at5

  at10 : drop 10 (bytes_of f) ≡ from10
  at10 = spelled_after (bytes_of f) 6 4 f.tenant from10 at6

  at18 : drop 18 (bytes_of f) ≡ from18
  at18 = spelled_after (bytes_of f) 10 8 f.machine from18 at10

  at26 : drop 26 (bytes_of f) ≡ from26
  at26 = spelled_after (bytes_of f) 18 8 f.report from26 at18

  at34 : drop 34 (bytes_of f) ≡ from34
  at34 = spelled_after (bytes_of f) 26 8 f.sent from34 at26

  at35 : drop 35 (bytes_of f) ≡ from35
  at35 = spelled_after (bytes_of f) 34 1 f.attempt from35 at34

  at43 : drop 43 (bytes_of f) ≡ from43
  at43 = spelled_after (bytes_of f) 35 8 f.memory from43 at35

  at45 : drop 45 (bytes_of f) ≡ sites_bytes f.sites
  at45 = spelled_after (bytes_of f) 43 2 (length f.sites) (sites_bytes f.sites) at43

  -- 45 bytes stand before the sites
  pub body_length : length (bytes_of f) ≡ 45 + length (sites_bytes f.sites)
  unfolding bytes_of
  body_length = simp (length-append, bytes_length) (omega arith)

-- fields that fit, spelled and followed by a tag of the right size
module _ (f : Fields) (fit : FieldsFit f) (tag : List ℕ) (tagged : length tag ≡ tag_size_of f.hash) where
  abbrev whole : List ℕ
  whole = bytes_of f ++ tag

  -- a number of the head stands in the whole report
  head_number : (at k n : ℕ) (r : List ℕ) → drop at (bytes_of f) ≡ bytes k n ++ r → n < 256 ^ k → at + k ≤ 45 → number_at whole at k ≡ n
  head_number at k n r here h low =
      let top : ℕ = length (bytes_of f) in
      sym (number_front top at k whole (omega (arith, body_length f)))
      ∙ ap (λ (l : List ℕ). number_at l at k) (take_at (bytes_of f) tag top refl)
      ∙ spelled_number (bytes_of f) at k n r here h

  whole_length : length whole ≡ f.count + 4
  whole_length = omega (arith, length-append (bytes_of f) tag, body_length f, fit.count)

  count_fits : f.count < 256 ^ 4
  count_fits = omega (arith, fit.count, tag_most f.hash, sites_most fit.sites, fit.few)

  pub hash_read : number_at whole 5 1 ≡ f.hash
  hash_read = head_number 5 1 f.hash (from6 f) (at5 f) (hash_small f.hash fit.known) (lit≤ tt)

  sites_number : number_at whole 43 2 ≡ length f.sites
  sites_number = head_number 43 2 (length f.sites) (sites_bytes f.sites) (at43 f) (omega (arith, fit.few)) (lit≤ tt)

  -- so its tag starts after the fields
  tag_start_lem : tag_start whole ≡ length (bytes_of f)
  tag_start_lem =
      let size : tag_size_in whole ≡ tag_size_of f.hash = ap tag_size_of hash_read in
      omega (arith, length-append (bytes_of f) tag)

  pub before_tag_lem : before_tag whole ≡ bytes_of f
  before_tag_lem = ap (λ (n : ℕ). take n whole) tag_start_lem ∙ take_at (bytes_of f) tag (length (bytes_of f)) refl

  pub from_tag : drop (tag_start whole) whole ≡ tag
  from_tag = ap (λ (n : ℕ). drop n whole) tag_start_lem ∙ drop_at (bytes_of f) tag (length (bytes_of f)) refl

  sites_there : sites_in whole ≡ (done, f.sites)
  sites_there =
      ap₂ read_sites sites_number (ap (drop 45) before_tag_lem ∙ at45 f) ∙ sites_read fit.sites

  -- the fields read back
  fields_there : fields_of whole ≡ f
  fields_there =
      let count = head_number 0 4 f.count (from4 f) (at0 f) count_fits (lit≤ tt) in
      let version = head_number 4 1 f.version (from5 f) (at4 f) (omega (arith, fit.version)) (lit≤ tt) in
      let tenant = head_number 6 4 f.tenant (from10 f) (at6 f) fit.tenant (lit≤ tt) in
      let machine = head_number 10 8 f.machine (from18 f) (at10 f) fit.machine (lit≤ tt) in
      let report = head_number 18 8 f.report (from26 f) (at18 f) fit.report (lit≤ tt) in
      let sent = head_number 26 8 f.sent (from34 f) (at26 f) fit.sent (lit≤ tt) in
      let attempt = head_number 34 1 f.attempt (from35 f) (at34 f) fit.attempt (lit≤ tt) in
      let memory = head_number 35 8 f.memory (from43 f) (at35 f) fit.memory (lit≤ tt) in
      λ i.
      record {
        count = count i;
        version = version i;
        hash = hash_read i;
        tenant = tenant i;
        machine = machine i;
        report = report i;
        sent = sent i;
        attempt = attempt i;
        memory = memory i;
        sites = (sites_there i).1;
      }

  -- and every check of reading passes
  pub whole_passes : Passed whole
  whole_passes =
      let count : number_at whole 0 4 ≡ f.count = ap (λ (g : Fields). g.count) fields_there in
      let size : tag_size_in whole ≡ tag_size_of f.hash = ap tag_size_of hash_read in
      let long : 45 + tag_size_of f.hash ≤ length whole = omega (arith, whole_length, fit.count) in
      record {
        long = omega (arith, tag_least f.hash);
        count = omega (arith, whole_length);
        version = ap (λ (g : Fields). g.version) fields_there ∙ fit.version;
        known = ap names_hash hash_read ∙ fit.known;
        tag_fits = omega arith;
        few = omega (arith, sites_number, fit.few);
        placed = ap (λ (w : ℕ × List Site). w.0) sites_there;
        live = subst (λ (w : ℕ × List Site). live_of w.1 ≤ largest_total) (sym sites_there) fit.live;
        sites = ap (λ (w : ℕ × List Site). length w.1) sites_there ∙ sym sites_number;
      }

  -- so the report reads as the fields that it was written from
  pub read_whole : read_of whole ≡ (done, f)
  unfolding read_of
  read_whole = rw (passes whole whole_passes) (λ i. (done, fields_there i))
