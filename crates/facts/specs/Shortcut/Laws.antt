-- Proved: the shortcut fails: two reports would share its message, whether the lengths of all labels are left out or that of the first.
-- Assumes nothing.
use Rattle.std.specs.Prelude.{◌≡◌, refl, List, [], ◌∷◌, ◌++◌, ℕ, length}
use Rattle.std.proofs.Common.{ap, arith}
use Rattle.octets.specs.Number.{number, onto, bytes}
use Rattle.octets.specs.Every.{every}
use Rattle.report.specs.Layout.{Site, live_of}
use Rattle.report.specs.Reading.{read_sites, read_of}
use Rattle.report.specs.Calls.{site_of}
use Rattle.facts.specs.Shortcut.{unmeasured, without_lengths, without_first_length, two_sites, sevens, Shared}

-- labels of 1 and 2 bytes, and of 2 and 1
pub all_lengths_shared : Shared without_lengths (two_sites 1 (sevens 13) 2 (sevens 14)) (two_sites 2 (sevens 14) 1 (sevens 13))
unfolding without_lengths unmeasured bytes read_of read_sites live_of number onto every
all_lengths_shared = record {
  first = record { bytes = refl; reads = refl };
  second = record { bytes = refl; reads = refl };
  same = refl;
  differ = λ a. let z : ◌≡◌ {A = ℕ} 1 2 = ap (λ (xs : List Site). length (site_of xs 0).label) a.sites in omega arith;
}

-- the same, with bytes that look like the length of the other report's second label
pub first_length_shared :
    Shared without_first_length
    (two_sites 1 (sevens 13) 2 (1 ∷ sevens 13))
    (two_sites 2 (sevens 13 ++ (2 ∷ [])) 1 (sevens 13))
unfolding without_first_length read_of read_sites live_of number onto every
first_length_shared = record {
  first = record { bytes = refl; reads = refl };
  second = record { bytes = refl; reads = refl };
  same = refl;
  differ = λ a. let z : ◌≡◌ {A = ℕ} 1 2 = ap (λ (xs : List Site). length (site_of xs 0).label) a.sites in omega arith;
}
