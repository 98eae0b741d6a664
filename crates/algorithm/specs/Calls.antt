-- Believed: what each public function promises: the outcome predicate that its contract cites. Calls/Unique.antt shows that no second
-- outcome meets it. Assumes nothing.
pub mod Laws
pub mod Unique
use Rattle.std.specs.Prelude.{◌≡◌, List, [], ◌∷◌, ℕ, Result, Ok, Err}
use Rattle.algorithm.specs.Hashes.{hash_number, block_of, size_of, shortest_of, names}
use Rattle.algorithm.specs.Refusals.{done, unknown_hash}
use Rattle.algorithm.specs.Answers.{number_of}
use Rattle.algorithm.specs.Checks.{Check, check, first_failing, decided}
use Rattle.algorithm.specs.declared.hashes.Hash.{Hash}
use Rattle.algorithm.specs.declared.refusals.Refusal.{Refusal}

-- the number that comes back for each answer, and its value: that of the hash which is named, and 0 where none is
abbrev pub answer_of : Result Hash Refusal → ℕ × ℕ
answer_of (Ok h) = (done, hash_number h)
answer_of (Err e) = (number_of e, 0)

-- Hash::try_from(hash_number)
abbrev pub which_checks : ℕ → List Check
which_checks n = check (names n) unknown_hash ∷ []

abbrev pub WhichOutcome : ℕ → Result Hash Refusal → Type 0
WhichOutcome n r = answer_of r ≡ (first_failing (which_checks n), decided (which_checks n) n 0)

-- block_size(hash)
abbrev pub BlockSizeOutcome : Hash → ℕ → Type 0
BlockSizeOutcome h r = r ≡ block_of h

-- digest_size(hash)
abbrev pub DigestSizeOutcome : Hash → ℕ → Type 0
DigestSizeOutcome h r = r ≡ size_of h

-- shortest_tag(hash)
abbrev pub ShortestTagOutcome : Hash → ℕ → Type 0
ShortestTagOutcome h r = r ≡ shortest_of h
