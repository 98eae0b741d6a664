-- Private: the sizes that the code of the block step works with, of words of either width. Assumes nothing.
pub mod Laws
use Rattle.std.specs.Prelude.{◌≡◌, ℕ, ◌-◌, ◌*◌, ◌/◌, ◌<◌, ◌≤◌}
use denote.Memory.{lone}
use denote.RattleType.{RattleType}
use prog.Memory.{size, align}
use Rattle.hash.specs.Description.{Core}
use Rattle.hash.specs.Sha2.{word_size}

-- the bytes of a word and the rounds of a block are the core's. The rounds but the last sixteen are a number of eights.
pub record Sizes (C : Core) (bytes rounds : ℕ) : Type 0 where
  pub bytes_is : bytes ≡ word_size C
  pub some : 0 < bytes
  pub few : bytes ≤ 8
  pub rounds_is : rounds ≡ C.rounds
  pub more : 16 ≤ rounds
  pub most : rounds ≤ 80
  pub eights : 8 * ((rounds - 16) / 8) ≡ rounds - 16

-- a value of the type takes at most eight bytes of memory, at a place that is at most a multiple of eight
pub record Room (R : RattleType) : Type 0 where
  pub size : size (lone R.mir) ≤ 8
  pub align : align (lone R.mir) ≤ 8
