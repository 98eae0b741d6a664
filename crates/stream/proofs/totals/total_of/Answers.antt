-- `stream::totals::total_of`: the number of the first four bytes, as the library makes it of them. Assumes nothing.
use Rattle.std.specs.Prelude.{◌≡◌, ◌≤◌, List, [], ◌∷◌, ℕ, ◌+◌, length, slice_index}
use Rattle.std.specs.Int.{w32, from_be_bytes}
use Rattle.std.proofs.Common.{ap, ◌∙◌, arith}
use Rattle.octets.specs.Number.{number, onto}
use Rattle.stream.specs.Stream.{total_of}
use Rattle.stream.proofs.totals.total_of.Goals as goal

by_bytes : (s : List ℕ) → 4 ≤ length s
    → from_be_bytes w32 (slice_index s 0 ∷ slice_index s 1 ∷ slice_index s 2 ∷ slice_index s 3 ∷ []) + 4 ≡ total_of s
unfolding total_of number onto
by_bytes [] h = absurd (omega arith)
by_bytes (a ∷ []) h = absurd (omega arith)
by_bytes (a ∷ b ∷ []) h = absurd (omega arith)
by_bytes (a ∷ b ∷ c ∷ []) h = absurd (omega arith)
by_bytes (a ∷ b ∷ c ∷ d ∷ s) h = omega arith

pub returns : goal.returns
returns c = ap (λ (n : ℕ). n + 4) c.from_be_bytes-count.ensures ∙ by_bytes c.args.bytes.now c.requires
