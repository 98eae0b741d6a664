-- Private: what a capture holds next. Assumes nothing.
use Rattle.std.specs.Prelude.{ℕ, ◌≤◌}
use Rattle.report.specs.Layout.{largest_report}

-- a report that was found has bytes after its count, and no more than a report may have
abbrev pub Fits : ℕ → Type 0
Fits size = (5 ≤ size) × (size ≤ largest_report)
