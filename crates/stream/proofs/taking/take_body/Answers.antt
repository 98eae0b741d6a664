-- `stream::taking::take_body`: up to the total, and the plain reader's answer where it is reached. Assumes nothing.
use Rattle.stream.specs.Calls.{Fed}
use mathlib.Core.Path.{ap, ◌∙◌}
use native.Mathlib.Omega.{arith}
use Rattle.stream.proofs.Goals.{body_goal, body_more, body_whole}
use Rattle.stream.proofs.taking.take_body.Goals as goal

pub overflow_sub-to_end : goal.overflow_sub-to_end
overflow_sub-to_end c =
    (body_goal c.args.collected c.total_of-total.result c.args.buffer.now c.args.piece.now c.requires.waiting c.requires.head_collected c.total_of-total.ensures).ahead

pub collect-requires : goal.collect-requires
collect-requires c =
    body_goal c.args.collected c.total_of-total.result c.args.buffer.now c.args.piece.now c.requires.waiting c.requires.head_collected c.total_of-total.ensures

pub returns-then-piece-to_end : goal.returns-then-piece-to_end
returns-then-piece-to_end c =
    let total = c.total_of-total in
    let col = c.collect in
    ap (λ (f : Fed). (f, col.new.buffer)) c.more.ensures
    ∙ body_more c.args.collected total.result c.args.buffer.now c.args.piece.now c.requires.waiting c.requires.head_collected total.ensures col.new.buffer col.ensures (omega arith)

pub returns : goal.returns
returns c =
    let total = c.total_of-total in
    let col = c.collect in
    ap (λ (f : Fed). (f, col.new.buffer)) c.whole.ensures
    ∙ body_whole c.args.collected total.result c.args.buffer.now c.args.piece.now c.requires.waiting c.requires.head_collected total.ensures col.new.buffer col.ensures (omega arith)
