-- `hmac::one_piece::tag_message`: a start and one piece, then its tag. Assumes nothing.
use Rattle.std.proofs.Common.{refl, ◌∙◌}
use Rattle.algorithm.specs.Answers.Laws.{passed_on}
use Rattle.hmac.specs.Calls.Laws.{message_tag}
use Rattle.hmac.proofs.Messages.{start_refuses, message_taken, message_refused, tag_refuses}
use Rattle.hmac.proofs.one_piece.tag_message.Goals as goal

pub returns-in_err-keyed : goal.returns-in_err-keyed
returns-in_err-keyed c = rw (passed_on c.from_residual.ensures.1) (tag_refuses (start_refuses c.in_err-keyed.ensures) c.args.out.now)

pub returns-in_err-update : goal.returns-in_err-update
returns-in_err-update c =
    rw (passed_on c.from_residual-in_err-update.ensures.1)
    (tag_refuses (message_refused c.in_ok-keyed.ensures c.in_err-update.ensures) c.args.out.now)

pub returns : goal.returns
returns c = c.tag.ensures ∙ message_tag ((message_taken c.in_ok-keyed.ensures c.in_ok-update.ensures).whole _ refl) c.args.out.now
