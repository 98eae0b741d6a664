-- `hash::step::sums` adds the words place by place. Assumes nothing.
use Rattle.hash.proofs.Rounds.{sums_code}
use Rattle.hash.proofs.step.sums.Goals as goal

pub returns : goal.returns
returns g c =
    sums_code g.W.Word.core g.W.Word.value c.args.s c.args.v c.well_formed.0.1.0.1 c.well_formed.1.0.1.0.1 _ _ _ _ _ _ _ _ _ _ _ _ _ _ _ _
    c.add.ensures c.add-2.ensures c.add-3.ensures c.add-4.ensures c.add-5.ensures c.add-6.ensures c.add-7.ensures c.add-8.ensures
