-- Private: the totals. Assumes nothing.
use Rattle.std.specs.Prelude.{cond, ℕ, eqb, Option}
use Rattle.octets.specs.Sums.{plus_of}

-- the live bytes with those of one more report: only where its verdict is 0
abbrev pub live_with : Option ℕ → ℕ → ℕ → Option ℕ
live_with total number live = cond (eqb number 0) (plus_of total live) total
