-- Proved: a ledger that is full can be made longer: records of zeros after the others change nothing that it holds. Assumes nothing.
use Rattle.std.specs.Prelude.{◌≡◌, false, replicate}
use Rattle.std.proofs.Math.Path.{refl}
use mathlib.Core.List.{List, [], ◌∷◌, ◌++◌}
use Prim.Native.Nat.{ℕ, zero, suc}
use Rattle.ledger.specs.Records.{used, zero_record, all_free, used_first, free_zero, taken, none_twice, total_of, fingerprints_of, sound}
use Rattle.ledger.proofs.Proved.Records.Laws.{free_first, zeros_free, zeros_zero, zeros_once, zeros_total, zeros_fingerprints}
use Rattle.ledger.specs.declared.records.Record.{Record}

module _ (n : ℕ) where
  abbrev longer : List Record → List Record
  longer rs = rs ++ replicate n zero_record

  longer_free : (rs : List Record) → all_free (longer rs) ≡ all_free rs
  unfolding all_free
  longer_free [] = zeros_free n
  longer_free (r ∷ rs) = rw (longer_free rs)

  longer_first : (rs : List Record) → used_first (longer rs) ≡ used_first rs
  unfolding used_first
  longer_first [] = free_first (replicate n zero_record) (zeros_free n)
  longer_first (r ∷ rs) = rw (longer_first rs, longer_free rs)

  longer_zero : (rs : List Record) → free_zero (longer rs) ≡ free_zero rs
  unfolding free_zero
  longer_zero [] = zeros_zero n
  longer_zero (r ∷ rs) = rw (longer_zero rs)

  zeros_taken : (f : List ℕ) (k : ℕ) → taken f (replicate k zero_record) ≡ false
  unfolding taken used
  zeros_taken f zero = refl
  zeros_taken f (suc k) = zeros_taken f k

  -- the same fingerprints are taken
  pub longer_taken : (f : List ℕ) (rs : List Record) → taken f (longer rs) ≡ taken f rs
  unfolding taken
  longer_taken f [] = zeros_taken f n
  longer_taken f (r ∷ rs) = rw (longer_taken f rs)

  longer_once : (rs : List Record) → none_twice (longer rs) ≡ none_twice rs
  unfolding none_twice
  longer_once [] = zeros_once n
  longer_once (r ∷ rs) = rw (longer_taken r.fingerprint rs, longer_once rs)

  -- the sum is the same
  pub longer_total : (rs : List Record) → total_of (longer rs) ≡ total_of rs
  unfolding total_of
  longer_total [] = zeros_total n
  longer_total (r ∷ rs) = rw (longer_total rs)

  -- the fingerprints are the same, in order
  pub longer_fingerprints : (rs : List Record) → fingerprints_of (longer rs) ≡ fingerprints_of rs
  unfolding fingerprints_of
  longer_fingerprints [] = zeros_fingerprints n
  longer_fingerprints (r ∷ rs) = rw (longer_fingerprints rs)

  -- the slice is sound where it was
  pub longer_sound : (rs : List Record) → sound (longer rs) ≡ sound rs
  unfolding sound
  longer_sound rs = rw (longer_first rs, longer_zero rs, longer_once rs, longer_total rs)
