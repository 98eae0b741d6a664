-- Believed: reading a report (docs/PROTOCOL.md, "Reports"): one total function from bytes to the number and the fields. It is open, so
-- that a report's reading computes. Assumes nothing.
pub mod Laws
use Rattle.std.specs.Prelude.{◌≡◌, Bool, true, cond, ◌&&◌, ◌||◌, List, [], ◌∷◌, ◌++◌, ℕ, zero, suc, ◌+◌, ◌-◌, leb, eqb, length, take, drop, Result, Ok, Err}
use Rattle.octets.specs.Number.{number_at}
use Rattle.octets.specs.Every.{all_bytes}
use Rattle.octets.specs.Sums.{largest_total}
use Rattle.algorithm.specs.declared.hashes.Hash.{Hash}
use Rattle.algorithm.specs.declared.hashes.Hash.TheVariants.{Sha256, Sha512}
use Rattle.algorithm.specs.declared.refusals.Refusal.{Refusal}
use Rattle.algorithm.specs.declared.refusals.Refusal.TheVariants.{UnknownHash}
use Rattle.algorithm.specs.Refusals.{done, unknown_hash, wrong_report_length, unknown_version, too_many_sites, label_length_out_of_range, sites_misplaced, sum_too_large}
use Rattle.algorithm.specs.Checks.{Check, check, first_failing, decided}
use Rattle.report.specs.Layout.{Site, Fields, tag_size_of, smallest_report, live_of}

-- the hash that a report names by a number: its own list, whatever other calls make
abbrev pub names_hash : ℕ → Bool
names_hash n = eqb n 1 || eqb n 2

abbrev pub hash_named : ℕ → Hash
hash_named n = cond (eqb n 2) Sha512 Sha256

abbrev pub named_in : ℕ → Result Hash Refusal
named_in n = cond (names_hash n) (Ok (hash_named n)) (Err UnknownHash)

-- the hash of a report, the bytes of its tag, where the tag starts, and all bytes before it
abbrev pub hash_in : List ℕ → Hash
hash_in s = hash_named (number_at s 5 1)

abbrev pub tag_size_in : List ℕ → ℕ
tag_size_in s = tag_size_of (number_at s 5 1)

abbrev pub tag_start : List ℕ → ℕ
tag_start s = length s - tag_size_in s

abbrev pub before_tag : List ℕ → List ℕ
before_tag s = take (tag_start s) s

-- the site whose label's length stands before some bytes: the label, live bytes, live blocks
abbrev pub first_site : ℕ → List ℕ → Site
first_site size l = record { label = take size l; live = number_at l size 8; blocks = number_at l (size + 8) 4 }

-- a number and some sites, with a site put before them
abbrev pub with_site : Site → ℕ × List Site → ℕ × List Site
with_site x w = (w.0, x ∷ w.1)

-- n sites that are to fill the bytes before the tag: the number that refuses them, and the sites. Above each case stands what the
-- rules say of it (docs/PROTOCOL.md, "Reports")
unfoldable pub read_sites : ℕ → List ℕ → ℕ × List Site
-- every site is read, and nothing is left
read_sites zero [] = (done, [])
-- every site is read, and bytes are left between the last one and the tag: 15
read_sites zero (b ∷ l) = (sites_misplaced, [])
-- no length byte stands before the tag: 15
read_sites (suc n) [] = (sites_misplaced, [])
-- a length byte stands there
read_sites (suc n) (size ∷ l) =
    cond (leb 1 size && leb size 48)
    (cond (leb (size + 12) (length l))
    -- the site ends before the tag, and the sites after it decide
    (with_site (first_site size l) (read_sites n (drop (size + 12) l)))
    -- the site runs into the tag: 15
    (sites_misplaced, []))
    -- the label length is 0 or over 48: 14
    (label_length_out_of_range, [])

abbrev pub sites_in : List ℕ → ℕ × List Site
sites_in s = read_sites (number_at s 43 2) (drop 45 (before_tag s))

-- the checks of length, count and version, those of the hash and of the number of sites, those of the sites, and all
abbrev pub start_checks : List ℕ → List Check
start_checks s =
    check (leb smallest_report (length s)) wrong_report_length
    ∷ check (eqb (number_at s 0 4) (length s - 4)) wrong_report_length
    ∷ check (eqb (number_at s 4 1) 1) unknown_version
    ∷ []

abbrev pub hash_checks : List ℕ → List Check
hash_checks s =
    check (names_hash (number_at s 5 1)) unknown_hash
    ∷ check (leb (45 + tag_size_in s) (length s)) wrong_report_length
    ∷ check (leb (number_at s 43 2) 64) too_many_sites
    ∷ []

abbrev pub sites_checks : ℕ × List Site → List Check
sites_checks w = check (eqb w.0 done) w.0 ∷ check (leb (live_of w.1) largest_total) sum_too_large ∷ []

abbrev pub read_checks : List ℕ → List Check
read_checks s = start_checks s ++ (hash_checks s ++ sites_checks (sites_in s))

-- the fields, each at its place
abbrev pub fields_of : List ℕ → Fields
fields_of s = record {
  count = number_at s 0 4;
  version = number_at s 4 1;
  hash = number_at s 5 1;
  tenant = number_at s 6 4;
  machine = number_at s 10 8;
  report = number_at s 18 8;
  sent = number_at s 26 8;
  attempt = number_at s 34 1;
  memory = number_at s 35 8;
  sites = (sites_in s).1;
}

abbrev pub no_fields : Fields
no_fields = record { count = 0; version = 0; hash = 0; tenant = 0; machine = 0; report = 0; sent = 0; attempt = 0; memory = 0; sites = [] }

-- the number, and the fields of a report that is not refused
unfoldable pub read_of : List ℕ → ℕ × Fields
read_of s = (first_failing (read_checks s), decided (read_checks s) (fields_of s) no_fields)

-- a report that reading lets pass; the tag plays no part
pub record WellFormed (s : List ℕ) : Type 0 where
  pub bytes : all_bytes s ≡ true
  pub reads : (read_of s).0 ≡ done
