-- Proved: small slices on both sides of each rule of soundness, by computing the definition. Assumes nothing.
use Rattle.std.specs.Prelude.{◌≡◌, refl, true, false, [], ◌∷◌, ◌++◌, ℕ, ◌-◌, replicate}
use Rattle.octets.specs.Every.{every}
use Rattle.octets.specs.Same.{equal}
use Rattle.octets.specs.Sums.{largest_total}
use Rattle.ledger.specs.Records.{used, is_zero, zero_record, used_record, all_free, used_first, free_zero, taken, none_twice, total_of, sound}
use Rattle.ledger.specs.declared.records.Record.{Record}

-- a used record whose fingerprint ends in a byte, after 31 others
abbrev ending : ℕ → ℕ → Record
ending last live = used_record (replicate 31 7 ++ (last ∷ [])) live

-- no record, and one of zeros
pub sound_empty : sound [] ≡ true
unfolding sound used_first free_zero none_twice total_of
sound_empty = refl

pub sound_zeros : sound (zero_record ∷ []) ≡ true
unfolding sound used_first free_zero none_twice total_of all_free used is_zero every
sound_zeros = refl

-- used records first, and a free one before a used one
pub sound_first : sound (ending 1 5 ∷ ending 2 6 ∷ zero_record ∷ []) ≡ true
unfolding sound used_first free_zero none_twice total_of all_free used is_zero every taken equal
sound_first = refl

pub hole : sound (ending 1 5 ∷ zero_record ∷ ending 2 6 ∷ []) ≡ false
unfolding sound used_first all_free used
hole = refl

-- a free record with a byte that is not zero: the fingerprint's last, the live bytes' and `in_use`'s, where 2 is free too
pub stained_fingerprint : sound (record { fingerprint = replicate 31 0 ++ (1 ∷ []); live = 0; in_use = 0 } ∷ []) ≡ false
unfolding sound used_first free_zero all_free used is_zero every
stained_fingerprint = refl

pub stained_live : sound (record { fingerprint = replicate 32 0; live = 1; in_use = 0 } ∷ []) ≡ false
unfolding sound used_first free_zero all_free used is_zero
stained_live = refl

pub in_use_two : sound (record { fingerprint = replicate 32 0; live = 0; in_use = 2 } ∷ []) ≡ false
unfolding sound used_first free_zero all_free used is_zero
in_use_two = refl

-- the same fingerprint twice, with a record between; a used record of zeros beside a free one is none
pub repeated : sound (ending 1 5 ∷ ending 2 6 ∷ ending 1 7 ∷ []) ≡ false
unfolding sound used_first free_zero none_twice used taken equal
repeated = refl

pub zeros_once : sound (used_record (replicate 32 0) 0 ∷ zero_record ∷ []) ≡ true
unfolding sound used_first free_zero none_twice total_of all_free used is_zero every taken equal
zeros_once = refl

-- a sum of 2^64 - 1, and one of 2^64
pub largest_sum : sound (ending 1 5 ∷ ending 2 (largest_total - 5) ∷ []) ≡ true
unfolding sound used_first free_zero none_twice total_of used taken equal
largest_sum = refl

pub sum_over : sound (ending 1 5 ∷ ending 2 (largest_total - 4) ∷ []) ≡ false
unfolding sound used_first free_zero none_twice total_of used taken equal
sum_over = refl
