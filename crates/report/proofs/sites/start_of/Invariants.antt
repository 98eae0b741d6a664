-- `report::sites::start_of` meets its contract. The loop's invariant: the site after so many starts here. Assumes nothing.
use Rattle.std.proofs.Common.{◌≡◌, ◌+◌}
use Rattle.report.specs.Calls.{before}
use Rattle.report.specs.Inside.{body_sites}
use Rattle.report.proofs.sites.start_of.Given as goal

abbrev pub invariant-loop : goal.invariant-loop
invariant-loop l = l.at ≡ 45 + before (body_sites l.body).1 l.counter
