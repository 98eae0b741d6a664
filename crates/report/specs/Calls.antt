-- Believed: what each public call answers, for all arguments: its checks in their order, and the work where none fails. An outcome
-- predicate is what the call's contract says; Calls/Unique.antt shows that no second outcome meets it. At the end stands what a caller has
-- who read a report and writes it again. Assumes nothing.
pub mod Laws
pub mod Write
pub mod Short
pub mod RoundTrip
pub mod Unique
use Rattle.std.specs.Prelude.{◌≡◌, ◌&&◌, ℕ, zero, suc, ◌+◌, ◌*◌, ◌≤◌, leb, ltb, eqb, length, take, drop, get_or, Result, Ok, Err}
use Rattle.std.specs.Borrow.{Bor}
use mathlib.Core.List.{List, [], ◌∷◌, ◌++◌, map, flatten}
use Rattle.octets.specs.Every.{every}
use Rattle.octets.specs.Sums.{sum_of, largest_total}
use Rattle.algorithm.specs.Hashes.{size_of}
use Rattle.algorithm.specs.Refusals.{done, unknown_hash, key_too_long, key_too_short, wrong_size, prk_too_short, too_many_sites, label_length_out_of_range, sites_misplaced, sum_too_large, no_such_site, buffer_too_short, most_bytes}
use Rattle.algorithm.specs.Answers.{number_of, valued}
use Rattle.algorithm.specs.Checks.{Check, check, first_failing, decided, answered}
use Rattle.hmac.specs.Hmac.{tag_of}
use Rattle.hmac.specs.Calls.{compare_checks}
use Rattle.report.specs.Layout.{Site, Fields, live_of}
use Rattle.report.specs.Reading.{names_hash, hash_named, hash_in, tag_size_in, tag_start, before_tag, sites_in, read_checks, fields_of, no_fields, read_of}
use Rattle.report.specs.Fingerprint.{fingerprint_of}
use Rattle.report.specs.Keys.{keys_of}
use Rattle.report.specs.Writing.{Columns, columns, sites_of, fields_from, report_of, label_fits}
use Rattle.algorithm.specs.declared.refusals.Refusal.{Refusal}
use Rattle.report.specs.declared.reading.Reading as reading
use Rattle.report.specs.declared.sites.SiteAt as sites
use Rattle.report.specs.declared.writing.Heading.{Heading}

-- read(report): the number, every field, how many sites and the sum of their live bytes
pub record Reading : Type 0 where
  pub number : ℕ
  pub count : ℕ
  pub version : ℕ
  pub hash : ℕ
  pub tenant : ℕ
  pub machine : ℕ
  pub report : ℕ
  pub sent : ℕ
  pub attempt : ℕ
  pub memory : ℕ
  pub sites : ℕ
  pub live : ℕ

abbrev pub reading_of : ℕ × Fields → Reading
reading_of r = record {
  number = r.0;
  count = r.1.count;
  version = r.1.version;
  hash = r.1.hash;
  tenant = r.1.tenant;
  machine = r.1.machine;
  report = r.1.report;
  sent = r.1.sent;
  attempt = r.1.attempt;
  memory = r.1.memory;
  sites = length r.1.sites;
  live = live_of r.1.sites;
}

-- the answer of the code as such a reading: all zero where the report is refused
abbrev pub reading_by : Result reading.Reading Refusal → Reading
reading_by (Ok r) = record {
  number = done;
  count = r.count;
  version = r.version;
  hash = r.hash;
  tenant = r.tenant;
  machine = r.machine;
  report = r.report;
  sent = r.sent;
  attempt = r.attempt;
  memory = r.memory;
  sites = r.sites;
  live = r.live;
}
reading_by (Err e) = reading_of (number_of e, no_fields)

abbrev pub ReadOutcome : List ℕ → Reading → Type 0
ReadOutcome s r = r ≡ reading_of (read_of s)

-- read_into(report, fields): the same numbers in a list
abbrev pub list_of : Reading → List ℕ
list_of r =
    r.count
    ∷ r.version
    ∷ r.hash
    ∷ r.tenant
    ∷ r.machine
    ∷ r.report
    ∷ r.sent
    ∷ r.attempt
    ∷ r.memory
    ∷ r.sites
    ∷ r.live
    ∷ []

abbrev pub numbers_of : Fields → List ℕ
numbers_of f = list_of (reading_of (done, f))

abbrev pub read_into_checks : List ℕ → List ℕ → List Check
read_into_checks s fields = read_checks s ++ (check (eqb (length fields) 11) wrong_size ∷ [])

pub read_into_answer : List ℕ → List ℕ → ℕ × List ℕ
read_into_answer s fields = answered (read_into_checks s fields) (numbers_of (fields_of s)) fields

abbrev pub ReadIntoOutcome : List ℕ → List ℕ → ℕ → List ℕ → Type 0
ReadIntoOutcome s fields r after = ◌≡◌ {A = ℕ × List ℕ} (r, after) (read_into_answer s fields)

-- the site at a place, and how far from the first one it starts
abbrev pub no_site : Site
no_site = record { label = []; live = 0; blocks = 0 }

abbrev pub site_of : List Site → ℕ → Site
site_of xs place = get_or xs place no_site

unfoldable pub before : List Site → ℕ → ℕ
before xs zero = 0
before [] (suc i) = 0
before (x ∷ xs) (suc i) = length x.label + 13 + before xs i

-- site(report, place): the number, where the label starts in the report, its length, live bytes and live blocks
pub record SiteAt : Type 0 where
  pub number : ℕ
  pub start : ℕ
  pub length : ℕ
  pub live : ℕ
  pub blocks : ℕ

abbrev pub place_checks : List ℕ → ℕ → List Check
place_checks s place = read_checks s ++ (check (ltb place (length (sites_in s).1)) no_such_site ∷ [])

abbrev pub found_site : List Site → ℕ → SiteAt
found_site xs place = record {
  number = done;
  start = 46 + before xs place;
  length = length (site_of xs place).label;
  live = (site_of xs place).live;
  blocks = (site_of xs place).blocks;
}

abbrev pub refused_site : ℕ → SiteAt
refused_site n = record { number = n; start = 0; length = 0; live = 0; blocks = 0 }

-- the answer of the code as such a site: all zero where it is refused
abbrev pub site_by : Result sites.SiteAt Refusal → SiteAt
site_by (Ok r) = record { number = done; start = r.start; length = r.length; live = r.live; blocks = r.blocks }
site_by (Err e) = refused_site (number_of e)

pub site_answer : List ℕ → ℕ → SiteAt
site_answer s place = decided (place_checks s place) (found_site (sites_in s).1 place) (refused_site (first_failing (place_checks s place)))

abbrev pub SiteOutcome : List ℕ → ℕ → SiteAt → Type 0
SiteOutcome s place r = r ≡ site_answer s place

-- site_into(report, place, numbers): the same numbers in a list
abbrev pub site_list : SiteAt → List ℕ
site_list r = r.start ∷ r.length ∷ r.live ∷ r.blocks ∷ []

abbrev pub site_numbers : List Site → ℕ → List ℕ
site_numbers xs place = site_list (found_site xs place)

abbrev pub site_into_checks : List ℕ → ℕ → List ℕ → List Check
site_into_checks s place numbers = place_checks s place ++ (check (eqb (length numbers) 4) wrong_size ∷ [])

pub site_into_answer : List ℕ → ℕ → List ℕ → ℕ × List ℕ
site_into_answer s place numbers = answered (site_into_checks s place numbers) (site_numbers (sites_in s).1 place) numbers

abbrev pub SiteIntoOutcome : List ℕ → ℕ → List ℕ → ℕ → List ℕ → Type 0
SiteIntoOutcome s place numbers r after = ◌≡◌ {A = ℕ × List ℕ} (r, after) (site_into_answer s place numbers)

-- label(report, place): the number, and the label, which is empty where it is refused
abbrev pub label_by : Result (Bor (List ℕ)) Refusal → List ℕ
label_by (Ok part) = part.now
label_by (Err e) = []

pub label_answer : List ℕ → ℕ → ℕ × List ℕ
label_answer s place = answered (place_checks s place) (site_of (sites_in s).1 place).label []

abbrev pub LabelOutcome : List ℕ → ℕ → ℕ → List ℕ → Type 0
LabelOutcome s place r part = ◌≡◌ {A = ℕ × List ℕ} (r, part) (label_answer s place)

-- a site's numbers point to a label in the report
pub record Points (s : List ℕ) (label : List ℕ) (r : SiteAt) : Type 0 where
  pub room : r.start + r.length ≤ length s
  pub is : take r.length (drop r.start s) ≡ label

-- the checks of a report's key
abbrev pub key_checks : List ℕ → List Check
key_checks key = check (leb (length key) most_bytes) key_too_long ∷ check (leb 16 (length key)) key_too_short ∷ []

-- check(report, tag_key)
abbrev pub tag_checks : List ℕ → List ℕ → List Check
tag_checks s key =
    read_checks s ++ (key_checks key ++ compare_checks (drop (tag_start s) s) (tag_of (hash_in s) key (tag_size_in s) (before_tag s)))

pub check_answer : List ℕ → List ℕ → ℕ
check_answer s key = first_failing (tag_checks s key)

abbrev pub CheckOutcome : List ℕ → List ℕ → ℕ → Type 0
CheckOutcome s key r = r ≡ check_answer s key

-- fingerprint(report, fingerprint_key, out)
abbrev pub fingerprint_checks : List ℕ → List ℕ → List ℕ → List Check
fingerprint_checks s key out = read_checks s ++ (key_checks key ++ (check (eqb (length out) 32) wrong_size ∷ []))

pub fingerprint_answer : List ℕ → List ℕ → List ℕ → ℕ × List ℕ
fingerprint_answer s key out = answered (fingerprint_checks s key out) (fingerprint_of s key) out

abbrev pub FingerprintOutcome : List ℕ → List ℕ → List ℕ → ℕ → List ℕ → Type 0
FingerprintOutcome s key out r after = ◌≡◌ {A = ℕ × List ℕ} (r, after) (fingerprint_answer s key out)

-- keys(hash_number, prk, tenant, machine, out)
abbrev pub keys_checks : ℕ → List ℕ → List ℕ → List Check
keys_checks n prk out =
    check (names_hash n) unknown_hash
    ∷ check (leb (length prk) most_bytes) key_too_long
    ∷ check (eqb (length out) (2 * size_of (hash_named n))) wrong_size
    ∷ check (leb (size_of (hash_named n)) (length prk)) prk_too_short
    ∷ []

pub keys_answer : ℕ → List ℕ → ℕ → ℕ → List ℕ → ℕ × List ℕ
keys_answer n prk tenant machine out = answered (keys_checks n prk out) (keys_of (hash_named n) prk tenant machine) out

abbrev pub KeysOutcome : ℕ → List ℕ → ℕ → ℕ → List ℕ → ℕ → List ℕ → Type 0
KeysOutcome n prk tenant machine out r after = ◌≡◌ {A = ℕ × List ℕ} (r, after) (keys_answer n prk tenant machine out)

-- write(heading, columns, tag_key, out): the number, the length of the report, and the buffer
abbrev pub column_checks : Columns → List Check
column_checks c =
    check (eqb (length c.live) (length c.lengths) && eqb (length c.blocks) (length c.lengths)) wrong_size
    ∷ check (leb (length c.lengths) 64) too_many_sites
    ∷ check (every label_fits c.lengths) label_length_out_of_range
    ∷ check (eqb (length c.labels) (sum_of c.lengths)) sites_misplaced
    ∷ check (leb (sum_of c.live) largest_total) sum_too_large
    ∷ []

abbrev pub write_checks : Heading → Columns → List ℕ → List ℕ → List Check
write_checks h c key out =
    check (names_hash h.hash) unknown_hash
    ∷ column_checks c
    ++ (key_checks key ++ (check (leb (length (report_of (fields_from h (sites_of c)) key)) (length out)) buffer_too_short ∷ []))

pub record Written : Type 0 where
  pub number : ℕ
  pub length : ℕ

-- the answer of the code as such a number and length: 0 where it is refused
abbrev pub written_by : Result ℕ Refusal → Written
written_by r = let a = valued 0 r in record { number = a.0; length = a.1 }

abbrev pub refused_write : ℕ → Written
refused_write n = record { number = n; length = 0 }

-- a report over the beginning of a buffer, whose other bytes stay
abbrev pub wrote_report : List ℕ → List ℕ → Written × List ℕ
wrote_report report out = (record { number = done; length = length report }, report ++ drop (length report) out)

pub write_answer : Heading → Columns → List ℕ → List ℕ → Written × List ℕ
write_answer h c key out =
    let cs : List Check = write_checks h c key out in
    decided cs (wrote_report (report_of (fields_from h (sites_of c)) key) out) (refused_write (first_failing cs), out)

abbrev pub WriteOutcome : Heading → Columns → List ℕ → List ℕ → Written → List ℕ → Type 0
WriteOutcome h c key out r after = ◌≡◌ {A = Written × List ℕ} (r, after) (write_answer h c key out)

-- the report that a write left: so many bytes of the buffer
abbrev pub report_in : Written × List ℕ → List ℕ
report_in r = take r.0.length r.1

-- what a caller has who asked the calls on a report, to write it again: the heading from read, and the columns from site and label at
-- every place
abbrev pub heading_read : Reading → Heading
heading_read r = record {
  hash = r.hash;
  tenant = r.tenant;
  machine = r.machine;
  report = r.report;
  sent = r.sent;
  attempt = r.attempt;
  memory = r.memory;
}

unfoldable pub places_from : ℕ → ℕ → List ℕ
places_from place zero = []
places_from place (suc n) = place ∷ places_from (suc place) n

abbrev pub columns_at : List ℕ → List ℕ → Columns
columns_at s places =
    columns (flatten (map (λ i. (label_answer s i).1) places)) (map (λ i. (site_answer s i).length) places) (map (λ i. (site_answer s i).live) places)
    (map (λ i. (site_answer s i).blocks) places)

abbrev pub columns_read : List ℕ → Columns
columns_read s = columns_at s (places_from 0 (reading_of (read_of s)).sites)
