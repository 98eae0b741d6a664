-- `report::filling::put_sites`: one site after the other. The loop's invariant says how far the sites are written. Assumes nothing.
use Rattle.report.specs.Lent.{columns_in}
use Rattle.report.proofs.Parts.{far_start, next, far_more, far_end}
use Rattle.report.proofs.filling.put_sites.Goals as goal

pub loop-place-init : goal.loop-place-init
loop-place-init c = far_start (columns_in c.args.columns.now) c.args.out.now

pub put_next-from-requires : goal.put_next-from-requires
put_next-from-requires c = next c.requires c.loop-place.invariant c.loop-place-test.true

pub loop-place-preserved : goal.loop-place-preserved
loop-place-preserved c = far_more c.requires c.loop-place.invariant c.loop-place-test.true c.put_next-from.ensures

pub returns : goal.returns
returns c = far_end c.requires c.loop-place.invariant c.loop-place-test.false
