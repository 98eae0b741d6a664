-- Private: what the private functions of writing a report ask and promise, and what the laws of writing speak of. Assumes nothing.
use Rattle.std.specs.Prelude.{◌≡◌, true, List, ◌∷◌, ◌++◌, ℕ, ◌+◌, ◌*◌, ◌≤◌, ◌<◌, length, take, drop, get_or, Result, Ok, Err}
use Rattle.std.proofs.Math.Seq.{paste}
use Rattle.octets.specs.Every.{every}
use Rattle.octets.specs.Number.{bytes}
use Rattle.octets.specs.Sums.{sum_of, largest_total}
use Rattle.algorithm.specs.declared.hashes.Hash.{Hash}
use Rattle.algorithm.specs.declared.hashes.Hash.TheVariants.{Sha256}
use Rattle.algorithm.specs.Refusals.{done, unknown_hash, most_bytes}
use Rattle.algorithm.specs.Hashes.{size_of}
use Rattle.algorithm.specs.Answers.{number_of}
use Rattle.algorithm.specs.declared.refusals.Refusal.{Refusal}
use Rattle.algorithm.specs.Checks.{Check, check, first_failing, decided, Pass}
use Rattle.hmac.specs.Hmac.{tag_of}
use Rattle.report.specs.Layout.{Site, site_bytes, tag_size_of}
use Rattle.report.specs.Reading.{names_hash, hash_named}
use Rattle.report.specs.Writing.{Columns, site_from, sites_of, fields_from, report_of, label_fits}
use Rattle.report.specs.Calls.{key_checks, column_checks}
use Rattle.report.specs.declared.writing.Heading.{Heading}
use Rattle.report.specs.declared.plans.Plan as plans

-- what columns have that no check refuses
pub record ColumnsFit (c : Columns) : Type 0 where
  pub live_many : length c.live ≡ length c.lengths
  pub blocks_many : length c.blocks ≡ length c.lengths
  pub few : length c.lengths ≤ 64
  pub lengths_fit : every label_fits c.lengths ≡ true
  pub labels_add_up : length c.labels ≡ sum_of c.lengths
  pub sum : sum_of c.live ≤ largest_total

-- what a write has whose hash and columns no check refuses, and one that no check refuses
pub record Planned (n : ℕ) (c : Columns) : Type 0 where
  pub known : names_hash n ≡ true
  pub columns_fit : ColumnsFit c

pub record Accepted (h : Heading) (c : Columns) (key out : List ℕ) : Type 0 where
  pub planned : Planned h.hash c
  pub key_passes : Pass (key_checks key)
  pub room : length (report_of (fields_from h (sites_of c)) key) ≤ length out

-- the checks of the hash and the columns, with the hash and how many bytes stand before the tag and in it
abbrev pub plan_checks : ℕ → Columns → List Check
plan_checks n c = check (names_hash n) unknown_hash ∷ column_checks c

abbrev pub body_size_of : Columns → ℕ
body_size_of c = 45 + length c.labels + 13 * length c.lengths

-- a plan, or the number that refuses it with hash 1 and zeros
pub record Plan : Type 0 where
  pub number : ℕ
  pub hash : Hash
  pub body_size : ℕ
  pub tag_size : ℕ

abbrev pub plan_by : Result plans.Plan Refusal → Plan
plan_by (Ok p) = record { number = done; hash = p.hash; body_size = p.body_size; tag_size = p.tag_size }
plan_by (Err e) = record { number = number_of e; hash = Sha256; body_size = 0; tag_size = 0 }

abbrev pub plan_of : ℕ → Columns → Plan
plan_of n c = record {
  number = first_failing (plan_checks n c);
  hash = decided (plan_checks n c) (hash_named n) Sha256;
  body_size = decided (plan_checks n c) (body_size_of c) 0;
  tag_size = decided (plan_checks n c) (tag_size_of n) 0;
}

-- the bytes before the first site
unfoldable pub head_bytes : Heading → ℕ → ℕ → List ℕ
head_bytes h count sites =
    bytes 4 count
    ++ (bytes 1 1
    ++ (bytes 1 h.hash
    ++ (bytes 4 h.tenant
    ++ (bytes 8 h.machine ++ (bytes 8 h.report ++ (bytes 8 h.sent ++ (bytes 1 h.attempt ++ (bytes 8 h.memory ++ bytes 2 sites))))))))

-- the site at a place, whose label starts in the labels at `from`, fits into an output after the sites before it, and is written there
pub record Next (c : Columns) (place from : ℕ) (out : List ℕ) : Type 0 where
  pub below : place < length c.lengths
  pub few : length c.lengths ≤ 64
  pub live_many : length c.live ≡ length c.lengths
  pub blocks_many : length c.blocks ≡ length c.lengths
  pub there : from + get_or c.lengths place 0 ≤ length c.labels
  pub room : from + 13 * place + (get_or c.lengths place 0 + 13) ≤ length out

abbrev pub site_next : Columns → ℕ → ℕ → Site
site_next c place from = site_from (take (get_or c.lengths place 0) (drop from c.labels)) (get_or c.live place 0) (get_or c.blocks place 0)

pub record NextPut (c : Columns) (place from : ℕ) (out : List ℕ) (end : ℕ) (after : List ℕ) : Type 0 where
  pub end_is : end ≡ from + get_or c.lengths place 0
  pub put : after ≡ paste out (from + 13 * place) (site_bytes (site_next c place from)) (length (site_bytes (site_next c place from)))

-- columns whose sites fit into an output, one after the other
pub record Room (c : Columns) (out : List ℕ) : Type 0 where
  pub columns_fit : ColumnsFit c
  pub room : length c.labels + 13 * length c.lengths ≤ length out

-- an output whose first bytes are followed by their tag
abbrev pub tagged : List ℕ → plans.Plan → List ℕ → List ℕ
tagged key p out =
    take p.body_size out ++ (tag_of p.hash key p.tag_size (take p.body_size out) ++ drop (p.body_size + p.tag_size) out)

pub record Taggable (key : List ℕ) (p : plans.Plan) (out : List ℕ) : Type 0 where
  pub key_fits : length key ≤ most_bytes
  pub tag : 2 * p.tag_size ≡ size_of p.hash
  pub least : 45 ≤ p.body_size
  pub short : p.body_size ≤ 3949
  pub room : p.body_size + p.tag_size ≤ length out

-- a report that may be written: its body and its tag fit into the output
pub record Filling (h : Heading) (c : Columns) (key : List ℕ) (p : plans.Plan) (out : List ℕ) : Type 0 where
  pub planned : Planned h.hash c
  pub key_fits : length key ≤ most_bytes
  pub hash : p.hash ≡ hash_named h.hash
  pub before : p.body_size ≡ body_size_of c
  pub after : p.tag_size ≡ tag_size_of h.hash
  pub room : p.body_size + p.tag_size ≤ length out
