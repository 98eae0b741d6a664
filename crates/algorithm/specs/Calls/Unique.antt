-- Proved: no second outcome: what meets the outcome predicate of a function, as its contract cites it, is one. Assumes nothing.
use Rattle.std.specs.Prelude.{◌≡◌, ℕ, Result}
use Rattle.algorithm.specs.Checks.Laws.{one_outcome}
use Rattle.algorithm.specs.Calls.{WhichOutcome, BlockSizeOutcome, DigestSizeOutcome, ShortestTagOutcome}
use Rattle.algorithm.specs.Calls.Laws.{which_told}
use Rattle.algorithm.specs.declared.hashes.Hash.{Hash}
use Rattle.algorithm.specs.declared.refusals.Refusal.{Refusal}

pub which_unique : (n : ℕ) (r r' : Result Hash Refusal) → WhichOutcome n r → WhichOutcome n r' → r ≡ r'
which_unique n r r' o o' = one_outcome (which_told n o) (which_told n o')

pub block_size_unique : (h : Hash) (r r' : ℕ) → BlockSizeOutcome h r → BlockSizeOutcome h r' → r ≡ r'
block_size_unique h r r' = one_outcome

pub digest_size_unique : (h : Hash) (r r' : ℕ) → DigestSizeOutcome h r → DigestSizeOutcome h r' → r ≡ r'
digest_size_unique h r r' = one_outcome

pub shortest_tag_unique : (h : Hash) (r r' : ℕ) → ShortestTagOutcome h r → ShortestTagOutcome h r' → r ≡ r'
shortest_tag_unique h r r' = one_outcome
