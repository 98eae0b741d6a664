-- Believed: writing a report (docs/PROTOCOL.md, "Reports"): the sites and the fields that a caller's arguments make, and the report of
-- them; what fits the layout; and sites taken apart, to be written again. Assumes nothing.
pub mod Reads
pub mod Inside
use Rattle.std.specs.Prelude.{◌≡◌, Bool, true, ◌&&◌, ℕ, ◌+◌, ◌^◌, ◌≤◌, ◌<◌, leb, ltb, length, take, drop}
use mathlib.Core.List.{List, [], ◌∷◌, ◌++◌, map, flatten}
use Rattle.octets.specs.Every.{every, all_bytes}
use Rattle.octets.specs.Sums.{largest_total}
use Rattle.hmac.specs.Hmac.{tag_of}
use Rattle.report.specs.Layout.{Site, Fields, sites_bytes, bytes_of, tag_size_of, live_of}
use Rattle.report.specs.Reading.{names_hash, hash_named}
use Rattle.report.specs.declared.writing.Heading.{Heading}

-- sites as they are handed over, in columns: the labels end to end, and a list each of label lengths, live bytes and live blocks
pub record Columns : Type 0 where
  pub labels : List ℕ
  pub lengths : List ℕ
  pub live : List ℕ
  pub blocks : List ℕ

abbrev pub columns : List ℕ → List ℕ → List ℕ → List ℕ → Columns
columns labels lengths live blocks = record { labels = labels; lengths = lengths; live = live; blocks = blocks }

-- a site, and those of some columns: the label of each is the next so many bytes
abbrev pub site_from : List ℕ → ℕ → ℕ → Site
site_from label live blocks = record { label = label; live = live; blocks = blocks }

unfoldable pub sites_from : List ℕ → List ℕ → List ℕ → List ℕ → List Site
sites_from labels [] live blocks = []
sites_from labels (n ∷ lengths) [] blocks = []
sites_from labels (n ∷ lengths) (a ∷ live) [] = []
sites_from labels (n ∷ lengths) (a ∷ live) (b ∷ blocks) =
    site_from (take n labels) a b ∷ sites_from (drop n labels) lengths live blocks

abbrev pub sites_of : Columns → List Site
sites_of c = sites_from c.labels c.lengths c.live c.blocks

-- the fields: the count is that of the 41 bytes between it and the sites, of the sites and of the tag; the version is 1
abbrev pub fields_from : Heading → List Site → Fields
fields_from h xs = record {
  count = 41 + length (sites_bytes xs) + tag_size_of h.hash;
  version = 1;
  hash = h.hash;
  tenant = h.tenant;
  machine = h.machine;
  report = h.report;
  sent = h.sent;
  attempt = h.attempt;
  memory = h.memory;
  sites = xs;
}

-- the tag of fields under a key, and their report: the bytes that they spell, and the tag of all those
abbrev pub tag_for : Fields → List ℕ → List ℕ
tag_for f key = tag_of (hash_named f.hash) key (tag_size_of f.hash) (bytes_of f)

unfoldable pub report_of : Fields → List ℕ → List ℕ
report_of f key = bytes_of f ++ tag_for f key

-- whether a label may be so long
abbrev pub label_fits : ℕ → Bool
label_fits n = leb 1 n && leb n 48

-- what the types of a caller's arguments say of them
pub record Typed (h : Heading) (c : Columns) : Type 0 where
  pub tenant : h.tenant < 256 ^ 4
  pub machine : h.machine < 256 ^ 8
  pub report : h.report < 256 ^ 8
  pub sent : h.sent < 256 ^ 8
  pub attempt : h.attempt < 256 ^ 1
  pub memory : h.memory < 256 ^ 8
  pub labels : all_bytes c.labels ≡ true
  pub blocks : every (λ b. ltb b (256 ^ 4)) c.blocks ≡ true

-- what fits the layout: a site, sites, fields
pub record SiteFits (x : Site) : Type 0 where
  pub least : 1 ≤ length x.label
  pub most : length x.label ≤ 48
  pub live : x.live < 256 ^ 8
  pub blocks : x.blocks < 256 ^ 4

pub data SitesFit : List Site → Type 0 where
  nothing : SitesFit []
  also : {x : Site} {xs : List Site} → SiteFits x → SitesFit xs → SitesFit (x ∷ xs)

pub record FieldsFit (f : Fields) : Type 0 where
  pub count : f.count ≡ 41 + length (sites_bytes f.sites) + tag_size_of f.hash
  pub version : f.version ≡ 1
  pub known : names_hash f.hash ≡ true
  pub tenant : f.tenant < 256 ^ 4
  pub machine : f.machine < 256 ^ 8
  pub report : f.report < 256 ^ 8
  pub sent : f.sent < 256 ^ 8
  pub attempt : f.attempt < 256 ^ 1
  pub memory : f.memory < 256 ^ 8
  pub few : length f.sites ≤ 64
  pub sites : SitesFit f.sites
  pub live : live_of f.sites ≤ largest_total

-- sites taken apart into columns
abbrev pub columns_of : List Site → Columns
columns_of xs =
    columns (flatten (map (λ x. x.label) xs)) (map (λ x. length x.label) xs) (map (λ x. x.live) xs) (map (λ x. x.blocks) xs)
