-- Believed: the records of a ledger (docs/PROTOCOL.md, "The ledger"): when a lent slice is sound, what it holds, and how a record is
-- entered. Assumes nothing.
pub mod Places
pub mod Examples
use Rattle.std.specs.Prelude.{◌≡◌, Bool, true, false, not, cond, ◌&&◌, ◌||◌, List, [], ◌∷◌, ℕ, ◌+◌, ◌<◌, eqb, leb, length, get_or, replicate}
use Rattle.octets.specs.Every.{all_zero}
use Rattle.octets.specs.Same.{equal}
use Rattle.octets.specs.Sums.{largest_total}
use Rattle.ledger.specs.declared.records.Record.{Record}

-- a record is used where `in_use` is 1, and free otherwise
unfoldable pub used : Record → Bool
used r = eqb r.in_use 1

-- every byte of it is zero
unfoldable pub is_zero : Record → Bool
is_zero r = eqb r.in_use 0 && (eqb r.live 0 && all_zero r.fingerprint)

-- a record of zeros, and the used one of a fingerprint and live bytes
abbrev pub zero_record : Record
zero_record = record { fingerprint = replicate 32 0; live = 0; in_use = 0 }

abbrev pub used_record : List ℕ → ℕ → Record
used_record fingerprint live = record { fingerprint = fingerprint; live = live; in_use = 1 }

-- every record is used; every one is free
unfoldable pub all_used : List Record → Bool
all_used [] = true
all_used (r ∷ rs) = used r && all_used rs

unfoldable pub all_free : List Record → Bool
all_free [] = true
all_free (r ∷ rs) = not (used r) && all_free rs

-- the used records stand first
unfoldable pub used_first : List Record → Bool
used_first [] = true
used_first (r ∷ rs) = cond (used r) (used_first rs) (all_free rs)

-- the free records are all zero
unfoldable pub free_zero : List Record → Bool
free_zero [] = true
free_zero (r ∷ rs) = (used r || is_zero r) && free_zero rs

-- a used record has the fingerprint
unfoldable pub taken : List ℕ → List Record → Bool
taken f [] = false
taken f (r ∷ rs) = used r && equal r.fingerprint f || taken f rs

-- no fingerprint stands twice among the used records
unfoldable pub none_twice : List Record → Bool
none_twice [] = true
none_twice (r ∷ rs) = not (used r && taken r.fingerprint rs) && none_twice rs

-- the sum of the used records' live bytes
unfoldable pub total_of : List Record → ℕ
total_of [] = 0
total_of (r ∷ rs) = cond (used r) r.live 0 + total_of rs

-- the fingerprints of the used records, in order
unfoldable pub fingerprints_of : List Record → List (List ℕ)
fingerprints_of [] = []
fingerprints_of (r ∷ rs) = cond (used r) (r.fingerprint ∷ fingerprints_of rs) (fingerprints_of rs)

-- a sound slice
unfoldable pub sound : List Record → Bool
sound rs = used_first rs && (free_zero rs && (none_twice rs && leb (total_of rs) largest_total))

-- the first free record of a slice stands at a place
pub record FirstFree (rs : List Record) (i : ℕ) : Type 0 where
  pub within : i < length rs
  pub free : used (get_or rs i zero_record) ≡ false
  pub earlier : (j : ℕ) → j < i → used (get_or rs j zero_record) ≡ true

-- a record in the place of the first free one
unfoldable pub entered : Record → List Record → List Record
entered x [] = []
entered x (r ∷ rs) = cond (used r) (r ∷ entered x rs) (x ∷ rs)
