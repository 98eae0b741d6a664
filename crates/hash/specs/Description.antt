-- Believed: the description of a hash: all that tells one from the other (FIPS 180-4, sections 4.1, 4.2, 5.3 and 6). Assumes nothing.
use Rattle.std.specs.Prelude.{ℕ, List}
use Rattle.algorithm.specs.declared.hashes.Hash.{Hash}
use Rattle.algorithm.specs.declared.hashes.Hash.TheVariants.{Sha256, Sha512}
use Rattle.hash.specs.declared.width.Width.{Width}
use Rattle.hash.specs.declared.width.Width.TheVariants.{Narrow, Wide}
use Rattle.hash.specs.Word.{Amounts}
use Rattle.hash.specs.Table.{k64, k32, first64, first32}

-- what the block step needs: the bits of a word, the rounds, the amounts of the four functions, and K
pub record Core : Type 0 where
  pub width : ℕ
  pub rounds : ℕ
  pub big0_by : Amounts
  pub big1_by : Amounts
  pub small0_by : Amounts
  pub small1_by : Amounts
  pub k : List ℕ

abbrev amounts : ℕ → ℕ → ℕ → Amounts
amounts a b c = record { a = a; b = b; c = c }

-- words of 32 bits
unfoldable pub narrow : Core
narrow =
    record {
      width = 32;
      rounds = 64;
      big0_by = amounts 2 13 22;
      big1_by = amounts 6 11 25;
      small0_by = amounts 7 18 3;
      small1_by = amounts 17 19 10;
      k = k32;
    }

-- words of 64 bits
unfoldable pub wide : Core
wide =
    record {
      width = 64;
      rounds = 80;
      big0_by = amounts 28 34 39;
      big1_by = amounts 14 18 41;
      small0_by = amounts 1 8 7;
      small1_by = amounts 19 61 6;
      k = k64;
    }

-- the core of each width
unfoldable pub core_of : Width → Core
core_of Narrow = narrow
core_of Wide = wide

-- a hash: its core, its first chaining words, and how many bytes of the last ones it keeps
pub record Description : Type 0 where
  pub core : Core
  pub first : List ℕ
  pub kept : ℕ

-- the one map from the hashes that we make to their descriptions
unfoldable pub describe : Hash → Description
describe Sha256 = record { core = narrow; first = first32; kept = 32 }
describe Sha512 = record { core = wide; first = first64; kept = 64 }
