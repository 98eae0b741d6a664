-- Two runs of blocks, one taken after the other: the run of a turn, and the words before it. Assumes nothing.
use Rattle.std.proofs.Common.{ℕ, zero, suc, List}
use Rattle.algorithm.specs.declared.hashes.Hash.{Hash}
use Rattle.algorithm.specs.Hashes.{block_of}
use Rattle.hash.specs.Run.{Run}
use Rattle.hash.specs.State.{words_of}

-- the run of a turn, and the words before it
unfoldable pub run_at : List ℕ → List ℕ → ℕ → List ℕ
run_at first second zero = first
run_at first second (suc i) = second

unfoldable pub words_at : Hash → List ℕ → List ℕ → List ℕ → ℕ → List ℕ
words_at h ws first second zero = ws
words_at h ws first second (suc i) = words_of h (words_at h ws first second i) (run_at first second i)

pub run_at_lem : (h : Hash) (first second : List ℕ) (i : ℕ) → Run (block_of h) first → Run (block_of h) second → Run (block_of h) (run_at first second i)
unfolding run_at
run_at_lem h first second zero a b = a
run_at_lem h first second (suc i) a b = b
