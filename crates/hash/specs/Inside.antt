-- Private: what the private functions of work in pieces ask and promise. Assumes nothing.
use Rattle.std.specs.Prelude.{◌≡◌, ℕ, ◌+◌, ◌≤◌, true, List, length}
use Rattle.algorithm.specs.declared.hashes.Hash.{Hash}
use Rattle.algorithm.specs.Hashes.{block_of}
use Rattle.algorithm.specs.Refusals.{most_bytes}
use Rattle.hash.specs.Description.{Core}
use Rattle.hash.specs.Blocks.{left_over}
use Rattle.hash.specs.Sha2.{zero_count, field_size}
use Rattle.hash.specs.State.{waiting_count, fit, words_of, placed, sound_of}
use Rattle.hash.specs.declared.state.State.{State}

-- a piece that a state takes
pub record Takes (s : State) (p : List ℕ) : Type 0 where
  pub sound : sound_of s ≡ true
  pub fits : s.count + length p ≤ most_bytes

-- a piece whose first `room` bytes fill the block of which `at` bytes wait
pub record Fills (s : State) (at room : ℕ) (p : List ℕ) : Type 0 where
  pub waits : at ≡ waiting_count s
  pub fills : at + room ≡ block_of s.hash
  pub within : room ≤ length p
  pub fits : s.count + length p ≤ most_bytes
  pub words : fit s.hash s.words ≡ true

-- the state with other waiting bytes, and n more counted
abbrev pub with_waiting : State → List ℕ → ℕ → State
with_waiting s w n = record { hash = s.hash; words = s.words; count = s.count + n; waiting = w }

-- the state that goes on from words with bytes where nothing waits, at a count
abbrev pub onward_of : Hash → List ℕ → ℕ → List ℕ → State
onward_of h ws n l = record { hash = h; words = words_of h ws l; count = n; waiting = placed (left_over (block_of h) l) }

-- a state whose end can be worked out
pub record Ends (s : State) : Type 0 where
  pub count : s.count ≤ most_bytes
  pub words : fit s.hash s.words ≡ true

-- where the padding ends after `at` waiting bytes
abbrev pub padded_end : Core → ℕ → ℕ
padded_end C at = at + 1 + zero_count C at + field_size C
