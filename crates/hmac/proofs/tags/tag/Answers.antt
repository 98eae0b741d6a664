-- `hmac::tags::tag`: its checks, then the beginning of the full tag. Assumes nothing.
use Rattle.std.proofs.Common.{sym, arith}
use Rattle.algorithm.specs.Answers.Laws.{refusal_not_done, passed_on}
use Rattle.hmac.specs.Calls.Laws.{tag_refused}
use Rattle.hmac.proofs.Tagged.{taggable, tagged}
use Rattle.hmac.proofs.Typed.{typed_held}
use Rattle.hmac.proofs.tags.tag.Goals as goal

pub returns-in_err-check : goal.returns-in_err-check
returns-in_err-check c =
    rw (passed_on c.from_residual.ensures.1)
    (sym (tag_refused c.args.keyed c.args.out.now c.in_err-check.ensures (refusal_not_done _)))

pub returns : goal.returns
returns c =
    let T = taggable c.args.keyed c.args.out.now c.in_ok-check.ensures in
    tagged T (typed_held c.args.keyed (omega arith) (omega arith) (omega arith) T.sound) c.full-whole.ensures c.copy_prefix.ensures
