-- `hash::step::advance_eight` is eight rounds that slide the ring. Assumes nothing.
use Rattle.std.proofs.Common.{map}
use Rattle.hash.proofs.Ring.{advance_eight}
use Rattle.hash.proofs.step.advance_eight.Goals as goal

pub returns : goal.returns
returns g c =
    let numbers = map g.W.Word.value in
    let progress = c.args.progress in
    advance_eight g.W.Word.core c.args.t (numbers progress.variables, numbers progress.ring) c.advance-p1.ensures c.advance-p2.ensures
    c.advance-p3.ensures c.advance-p4.ensures c.advance-p5.ensures c.advance-p6.ensures
    c.advance-p7.ensures c.advance.ensures
