-- `ledger::surveying::survey`: one record more a turn. Assumes nothing.
use mathlib.Core.Path.{refl}
use Rattle.std.proofs.Common.{◌≤◌, length, take, sym, ◌∙◌, arith, length-take-le}
use Rattle.ledger.specs.Records.{all_used, used_first, free_zero, none_twice, total_of, sound}
use Rattle.ledger.specs.Inside.{count_of, tally_of}
use Rattle.ledger.proofs.Proved.Inside.Laws.{used_within, tally_more}
use Rattle.ledger.proofs.surveying.survey.Goals as goal

pub loop-i-init : goal.loop-i-init
unfolding tally_of all_used used_first free_zero none_twice total_of count_of sound
loop-i-init c = refl

pub with_record-tally-requires : goal.with_record-tally-requires
with_record-tally-requires c =
    let low : c.loop-i.i ≤ length c.args.records.now = omega arith in
    rw c.loop-i.invariant (omega (arith, used_within (take c.loop-i.i c.args.records.now), length-take-le _ _ low))

pub loop-i-preserved : goal.loop-i-preserved
loop-i-preserved c = (rw c.loop-i.invariant at c.with_record-tally.ensures) ∙ sym (tally_more _ _ _ c.loop-i-test.true)
