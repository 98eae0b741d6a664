-- `hmac::tags::verify`: its checks, then the comparison. Assumes nothing.
use Rattle.std.proofs.Common.{◌≡◌, cond, sym, arith, length-take-le}
use Rattle.algorithm.specs.Answers.Laws.{refusal_not_done, passed_on}
use Rattle.algorithm.specs.Refusals.{done, tag_differs}
use Rattle.hmac.specs.Calls.{verify_answer}
use Rattle.hmac.specs.Calls.Laws.{verify_refused}
use Rattle.hmac.proofs.Tagged.{taggable, tag_fits, compared}
use Rattle.hmac.proofs.Typed.{typed_held}
use Rattle.hmac.proofs.tags.verify.Goals as goal
use Rattle.hmac.proofs.tags.verify.Goals.{After-same}

pub returns-in_err-check : goal.returns-in_err-check
returns-in_err-check c =
    rw (passed_on c.from_residual.ensures.1)
    (sym (verify_refused c.args.keyed c.args.presented.now c.in_err-check.ensures (refusal_not_done _)))

pub slice_bounds-whole-end : goal.slice_bounds-whole-end
slice_bounds-whole-end c = omega (arith, tag_fits c.args.keyed c.args.presented.now c.in_ok-check.ensures)

pub slice_bounds-same-end : goal.slice_bounds-same-end
slice_bounds-same-end c =
    sym (length-take-le c.args.keyed.tag_length c.full-whole.result
    (omega (arith, tag_fits c.args.keyed c.args.presented.now c.in_ok-check.ensures)))

same_tells : (c : After-same) → cond c.same.result done tag_differs ≡ verify_answer c.args.keyed c.args.presented.now
same_tells c =
    let T = taggable c.args.keyed c.args.presented.now c.in_ok-check.ensures in
    compared T (typed_held c.args.keyed (omega arith) (omega arith) (omega arith) T.sound) c.full-whole.ensures c.same.ensures

pub returns-then-same : goal.returns-then-same
returns-then-same c = rw c.if-same.true at (same_tells (goal.at.returns-then-same c).After-same)

pub returns-else-same : goal.returns-else-same
returns-else-same c = rw c.if-same.false at (same_tells (goal.at.returns-else-same c).After-same)
