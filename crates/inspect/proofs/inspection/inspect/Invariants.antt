use Rattle.std.proofs.Common.{◌≡◌, IfOk}
use Rattle.inspect.specs.Found.{Fits}
use Rattle.inspect.proofs.inspection.inspect.Given as goal

-- each turn counts one report
abbrev pub invariant-loop : goal.invariant-loop
invariant-loop g l = (l.totals.reports ≡ l.counter) × IfOk l.next Fits
