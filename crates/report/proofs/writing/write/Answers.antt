-- `report::writing::write`: the plan, the last checks, then the report. Assumes nothing.
use Rattle.std.proofs.Common.{rules}
use Rattle.std.proofs.lemmas.Result.{err_from_is_err_and}
use Rattle.report.proofs.Whole.{plan_refused, key_refused, too_short, filling, wrote}
use Rattle.report.proofs.writing.write.Goals as goal

pub returns-in_err-plan : goal.returns-in_err-plan
returns-in_err-plan c = search (rules, plan_refused)

pub returns-in_err-check_key : goal.returns-in_err-check_key
returns-in_err-check_key c =
    let r = c.from_residual-in_err-check_key in
    let p = err_from_is_err_and r.result r.ensures.1 in
    rw (p.1, p.2) (key_refused _ _ _ _ c.in_ok-plan.ensures _ c.in_err-check_key.ensures)

pub returns-then-out-length : goal.returns-then-out-length
returns-then-out-length c = too_short _ _ _ _ c.in_ok-plan.ensures c.in_ok-check_key.ensures c.if-out-length.true

pub fill-requires : goal.fill-requires
fill-requires c = filling _ _ _ _ c.in_ok-plan.ensures c.in_ok-check_key.ensures c.if-out-length.false

pub returns : goal.returns
returns c = wrote _ _ _ _ c.in_ok-plan.ensures c.in_ok-check_key.ensures c.if-out-length.false c.fill.ensures
