-- Believed: work in pieces: a state, when it is sound, and what bytes and the end make of it (docs/PROTOCOL.md, "Work in pieces").
-- What the calls promise is shut; its laws for the layers above are in State/Laws.antt. Assumes nothing.
pub mod Open
pub mod Laws
use Rattle.std.specs.Prelude.{◌≡◌, ℕ, ◌+◌, ◌%◌, ◌^◌, Bool, true, ◌&&◌, List, ◌++◌, length, take, drop, replicate, nat_le, nat_lt}
use Rattle.octets.specs.Every.{every, all_zero}
use Rattle.octets.specs.Zeros.{zeros_to}
use Rattle.algorithm.specs.declared.hashes.Hash.{Hash}
use Rattle.algorithm.specs.declared.hashes.Hash.TheVariants.{Sha256}
use Rattle.algorithm.specs.Hashes.{block_of}
use Rattle.algorithm.specs.Refusals.{most_bytes}
use Rattle.hash.specs.Description.{describe}
use Rattle.hash.specs.Blocks.{words_after, left_over}
use Rattle.hash.specs.Sha2.{step, padding, keep}
use Rattle.hash.specs.declared.state.State.{State}

-- the places of the waiting array: the bytes of the largest block
abbrev pub largest_block : ℕ
largest_block = 128

-- how many bytes wait for a full block, and which
abbrev pub waiting_count : State → ℕ
waiting_count s = s.count % block_of s.hash

abbrev pub waiting_of : State → List ℕ
waiting_of s = take (waiting_count s) s.waiting

-- whether each word fits the hash's width
abbrev pub fit : Hash → List ℕ → Bool
fit h ws = every (λ x. nat_lt x (2 ^ (describe h).core.width)) ws

-- the chaining words after every whole block of the bytes
abbrev pub words_of : Hash → List ℕ → List ℕ → List ℕ
words_of h ws l = words_after (block_of h) (step (describe h).core) ws l

-- bytes with zeros after them, as they wait
abbrev pub placed : List ℕ → List ℕ
placed = zeros_to largest_block

-- the test of a sound state
pub sound_of : State → Bool
sound_of s = nat_le s.count most_bytes && (all_zero (drop (waiting_count s) s.waiting) && fit s.hash s.words)

-- a state as the code can hold one, and sound
pub record Held (s : State) : Type 0 where
  pub eight : length s.words ≡ 8
  pub waiting_size : length s.waiting ≡ largest_block
  pub sound : sound_of s ≡ true

-- the state that has taken no byte and goes on from these words
abbrev pub from : Hash → List ℕ → State
from h ws = record { hash = h; words = ws; count = 0; waiting = replicate largest_block 0 }

-- a start
pub fresh_of : Hash → State
fresh_of h = from h (describe h).first

-- what stands for the state of a refused start: zeros that name hash 1
pub zero_state : State
zero_state = from Sha256 (replicate 8 0)

-- the state after bytes more
pub after_of : State → List ℕ → State
after_of s m =
    record {
      hash = s.hash;
      words = words_of s.hash s.words (waiting_of s ++ m);
      count = s.count + length m;
      waiting = placed (left_over (block_of s.hash) (waiting_of s ++ m));
    }

-- the chaining words and the digest that a state ends in
abbrev pub last_words : State → List ℕ
last_words s = words_of s.hash s.words (waiting_of s ++ padding (describe s.hash).core s.count)

pub end_of : State → List ℕ
end_of s = keep (describe s.hash) (last_words s)
