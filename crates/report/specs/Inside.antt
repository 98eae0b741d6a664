-- Private: what the private functions ask and promise, and what the laws on the way to the calls speak of. Assumes nothing.
use Rattle.std.specs.Prelude.{◌≡◌, Bool, true, false, ◌&&◌, List, [], ◌∷◌, ◌++◌, ℕ, suc, ◌+◌, ◌-◌, ◌*◌, ◌≤◌, ◌<◌, leb, length, take, drop, get_or, Result, Ok, Err, Option, Some, None}
use Rattle.octets.specs.Number.{number_at, bytes}
use Rattle.octets.specs.Sums.{largest_total}
use Rattle.algorithm.specs.Hashes.{block_of, size_of}
use Rattle.algorithm.specs.declared.hashes.Hash.{Hash}
use Rattle.algorithm.specs.declared.hashes.Hash.TheVariants.{Sha256}
use Rattle.algorithm.specs.Refusals.{done, sites_misplaced, sum_too_large, most_bytes}
use Rattle.algorithm.specs.Checks.{Check, first_failing, decided}
use Rattle.report.specs.Layout.{Site, Fields, sites_bytes, smallest_report, live_of}
use Rattle.report.specs.Reading.{names_hash, hash_in, tag_size_in, tag_start, first_site, with_site, read_sites, sites_in, start_checks, hash_checks, sites_checks, read_checks, fields_of, no_fields}
use Rattle.report.specs.Calls.{Reading, reading_of, site_of, before}
use Rattle.algorithm.specs.Answers.{number_of, valued}
use Rattle.algorithm.specs.declared.refusals.Refusal.{Refusal}
use Rattle.report.specs.declared.walk.Step as walk
use Rattle.report.specs.declared.checks.Checked as checks

-- sites that are not refused, of which one is the first
pub record First (n size : ℕ) (l : List ℕ) : Type 0 where
  pub range : (leb 1 size && leb size 48) ≡ true
  pub room : size + 12 ≤ length l
  pub is : read_sites (suc n) (size ∷ l) ≡ with_site (first_site size l) (read_sites n (drop (size + 12) l))
  pub rest : (read_sites n (drop (size + 12) l)).0 ≡ done

-- what the fields after the attempt spell
abbrev pub after_attempt : Fields → List ℕ
after_attempt f = bytes 8 f.memory ++ (bytes 2 (length f.sites) ++ sites_bytes f.sites)

-- no check has a number over this one
abbrev pub numbers_at_most : ℕ → List Check → Bool
numbers_at_most most [] = true
numbers_at_most most (c ∷ cs) = leb c.number most && numbers_at_most most cs

-- what a report has that reading lets pass
pub record Passed (s : List ℕ) : Type 0 where
  pub long : smallest_report ≤ length s
  pub count : number_at s 0 4 ≡ length s - 4
  pub version : number_at s 4 1 ≡ 1
  pub known : names_hash (number_at s 5 1) ≡ true
  pub tag_fits : 45 + tag_size_in s ≤ length s
  pub few : number_at s 43 2 ≤ 64
  pub placed : (sites_in s).0 ≡ done
  pub live : live_of (sites_in s).1 ≤ largest_total
  pub sites : length (sites_in s).1 ≡ number_at s 43 2

-- the site that starts at a place
abbrev pub site_here : List ℕ → ℕ → Site
site_here s at = record {
  label = take (get_or s at 0) (drop (at + 1) s);
  live = number_at s (at + get_or s at 0 + 1) 8;
  blocks = number_at s (at + get_or s at 0 + 9) 4;
}

-- where a site of some bytes stands: it starts after those before it, and the next one after it
pub record Stands (l : List ℕ) (xs : List Site) (place : ℕ) : Type 0 where
  pub here : site_of xs place ≡ site_here l (before xs place)
  pub room : before xs place + get_or l (before xs place) 0 + 13 ≤ length l
  pub next : before xs (suc place) ≡ before xs place + get_or l (before xs place) 0 + 13

-- such a site fits, and the next one starts after it
pub record Fits (body : List ℕ) (at : ℕ) : Type 0 where
  pub room : at + get_or body at 0 + 13 ≤ length body
  pub reads : (n : ℕ) → read_sites (suc n) (drop at body) ≡ with_site (site_here body at) (read_sites n (drop (at + get_or body at 0 + 13) body))

-- one site of the walk: the number that refuses it, where the next one starts, and its live bytes
pub record Step : Type 0 where
  pub number : ℕ
  pub next : ℕ
  pub live : ℕ

abbrev pub step_by : Result walk.Step Refusal → Step
step_by (Ok s) = record { number = done; next = s.next; live = s.live }
step_by (Err e) = record { number = number_of e; next = 0; live = 0 }

pub record Stepped (body : List ℕ) (at : ℕ) (r : Step) : Type 0 where
  pub refuses : (r.number ≡ done → ⊥) → (n : ℕ) → (read_sites (suc n) (drop at body)).0 ≡ r.number
  pub fits : r.number ≡ done → Fits body at
  pub next : r.number ≡ done → r.next ≡ at + get_or body at 0 + 13
  pub live : r.number ≡ done → r.live ≡ number_at body (at + get_or body at 0 + 1) 8

-- the number that refuses the sites, and else the sum of their live bytes
pub record Counted : Type 0 where
  pub number : ℕ
  pub live : ℕ

abbrev pub counted_by : Result ℕ Refusal → Counted
counted_by r = let a = valued 0 r in record { number = a.0; live = a.1 }

-- the end of the walk
abbrev pub end_of : Bool → Option ℕ → Counted
end_of true a = record { number = sites_misplaced; live = 0 }
end_of false None = record { number = sum_too_large; live = 0 }
end_of false (Some n) = record { number = done; live = n }

-- the whole walk
pub record Walked (body : List ℕ) (sites : ℕ) (r : Counted) : Type 0 where
  pub number : r.number ≡ first_failing (sites_checks (read_sites sites (drop 45 body)))
  pub live : r.number ≡ done → r.live ≡ live_of (read_sites sites (drop 45 body)).1

-- the checks before the sites, with the hash and where the tag starts
abbrev pub head_checks : List ℕ → List Check
head_checks s = start_checks s ++ hash_checks s

pub record Head : Type 0 where
  pub number : ℕ
  pub hash : Hash
  pub end : ℕ

abbrev pub head_by : Result (Hash × ℕ) Refusal → Head
head_by r = let a = valued (Sha256, 0) r in record { number = a.0; hash = a.1.0; end = a.1.1 }

abbrev pub head_of : List ℕ → Head
head_of s = record {
  number = first_failing (head_checks s);
  hash = decided (head_checks s) (hash_in s) Sha256;
  end = decided (head_checks s) (tag_start s) 0;
}

-- all checks, with what they found out
pub record Checked : Type 0 where
  pub number : ℕ
  pub hash : Hash
  pub end : ℕ
  pub sites : ℕ
  pub live : ℕ

abbrev pub stopped : ℕ → Checked
stopped n = record { number = n; hash = Sha256; end = 0; sites = 0; live = 0 }

abbrev pub checked_by : Result checks.Checked Refusal → Checked
checked_by (Ok c) = record { number = done; hash = c.hash; end = c.end; sites = c.sites; live = c.live }
checked_by (Err e) = stopped (number_of e)

abbrev pub checked_of : List ℕ → Checked
checked_of s = record {
  number = first_failing (read_checks s);
  hash = decided (read_checks s) (hash_in s) Sha256;
  end = decided (read_checks s) (tag_start s) 0;
  sites = decided (read_checks s) (number_at s 43 2) 0;
  live = decided (read_checks s) (live_of (sites_in s).1) 0;
}

-- what reading answers to a report that is refused, and to one whose live bytes are known
abbrev pub refused_reading : ℕ → Reading
refused_reading n = reading_of (n, no_fields)

abbrev pub head_reading : List ℕ → ℕ → Reading
head_reading s live = record {
  number = done;
  count = (fields_of s).count;
  version = (fields_of s).version;
  hash = (fields_of s).hash;
  tenant = (fields_of s).tenant;
  machine = (fields_of s).machine;
  report = (fields_of s).report;
  sent = (fields_of s).sent;
  attempt = (fields_of s).attempt;
  memory = (fields_of s).memory;
  sites = number_at s 43 2;
  live = live;
}

-- the sites of a report's body
abbrev pub body_sites : List ℕ → ℕ × List Site
body_sites body = read_sites (number_at body 43 2) (drop 45 body)

-- a body has a site at a place, and the site starts there
pub record Standing (body : List ℕ) (place : ℕ) : Type 0 where
  pub reads : (body_sites body).0 ≡ done
  pub there : place < number_at body 43 2

pub record StartIs (body : List ℕ) (place at : ℕ) : Type 0 where
  pub is : at ≡ 45 + before (body_sites body).1 place
  pub here : site_of (body_sites body).1 place ≡ site_here body at
  pub room : at + get_or body at 0 + 13 ≤ length body

-- a key and two pieces that HMAC takes, and an output for a fingerprint
pub record TwoPieces (h : Hash) (key first second out : List ℕ) : Type 0 where
  pub key_fits : length key ≤ most_bytes
  pub fits : length first + length second ≤ most_bytes - block_of h
  pub size : length out ≡ 32

-- a PRK that expand takes, and an output for both keys
pub record Derivable (h : Hash) (prk out : List ℕ) : Type 0 where
  pub fits : length prk ≤ most_bytes
  pub long : size_of h ≤ length prk
  pub room : length out ≡ 2 * size_of h
