-- Believed: the layout of a report (docs/PROTOCOL.md, "Reports"): its fields, the bytes that they take before the tag, and sizes.
-- Assumes nothing.
use Rattle.std.specs.Prelude.{◌≡◌, cond, List, [], ◌∷◌, ◌++◌, ℕ, ◌+◌, eqb, length}
use Rattle.octets.specs.Number.{bytes}

pub record Site : Type 0 where
  pub label : List ℕ
  pub live : ℕ
  pub blocks : ℕ

pub record Fields : Type 0 where
  pub count : ℕ
  pub version : ℕ
  pub hash : ℕ
  pub tenant : ℕ
  pub machine : ℕ
  pub report : ℕ
  pub sent : ℕ
  pub attempt : ℕ
  pub memory : ℕ
  pub sites : List Site

-- a site: the length of its label, the label, live bytes, live blocks
unfoldable pub site_bytes : Site → List ℕ
site_bytes x = bytes 1 (length x.label) ++ (x.label ++ (bytes 8 x.live ++ bytes 4 x.blocks))

-- sites, one after the other
unfoldable pub sites_bytes : List Site → List ℕ
sites_bytes [] = []
sites_bytes (x ∷ xs) = site_bytes x ++ sites_bytes xs

-- all bytes of a report before its tag
unfoldable pub bytes_of : Fields → List ℕ
bytes_of f =
    bytes 4 f.count
    ++ (bytes 1 f.version
    ++ (bytes 1 f.hash
    ++ (bytes 4 f.tenant
    ++ (bytes 8 f.machine
    ++ (bytes 8 f.report
    ++ (bytes 8 f.sent
    ++ (bytes 1 f.attempt
    ++ (bytes 8 f.memory
    ++ (bytes 2 (length f.sites)
    ++ sites_bytes f.sites)))))))))

-- the bytes of a tag, by the number of the report's hash
abbrev pub tag_size_of : ℕ → ℕ
tag_size_of n = cond (eqb n 2) 32 16

-- the fewest and the most bytes of a report
abbrev pub smallest_report : ℕ
smallest_report = 61

abbrev pub largest_report : ℕ
largest_report = 3981

-- the sum of live bytes
unfoldable pub live_of : List Site → ℕ
live_of [] = 0
live_of (x ∷ xs) = x.live + live_of xs

-- two reports agree in every field but the send time and the attempt
pub record AgreeButSendTimeAndAttempt (f g : Fields) : Type 0 where
  pub count : f.count ≡ g.count
  pub version : f.version ≡ g.version
  pub hash : f.hash ≡ g.hash
  pub tenant : f.tenant ≡ g.tenant
  pub machine : f.machine ≡ g.machine
  pub report : f.report ≡ g.report
  pub memory : f.memory ≡ g.memory
  pub sites : f.sites ≡ g.sites
