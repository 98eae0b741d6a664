-- `report::filling::put_sites`: one site after the other. The loop's invariant says how far the sites are written. Assumes nothing.
use Rattle.report.specs.Lent.{columns_in}
use Rattle.report.proofs.Parts.{Far}
use Rattle.report.proofs.filling.put_sites.Given as goal

abbrev pub invariant-loop-place : goal.invariant-loop-place
invariant-loop-place l = Far (columns_in l.columns) l.initial.out l.place l.from l.out
