-- `report::walk::walk_sites` meets its contract. The loop's invariant says how far the walk is. Assumes nothing.
use Rattle.report.proofs.Walking.{Far}
use Rattle.report.proofs.walk.walk_sites.Given as goal

abbrev pub invariant-loop : goal.invariant-loop
invariant-loop l = Far l.body l.sites l.at l.sum l.counter
