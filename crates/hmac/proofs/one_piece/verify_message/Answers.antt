-- `hmac::one_piece::verify_message`: a start and one piece, then the comparison. Assumes nothing.
use Rattle.std.proofs.Common.{refl, ◌∙◌}
use Rattle.algorithm.specs.Answers.Laws.{passed_on}
use Rattle.hmac.specs.Calls.Laws.{message_verify}
use Rattle.hmac.proofs.Messages.{start_refuses, message_taken, message_refused, verify_refuses}
use Rattle.hmac.proofs.one_piece.verify_message.Goals as goal

pub returns-in_err-taken : goal.returns-in_err-taken
returns-in_err-taken c = rw (passed_on c.from_residual.ensures.1) (verify_refuses (start_refuses c.in_err-taken.ensures) c.args.presented.now)

pub returns-in_err-update : goal.returns-in_err-update
returns-in_err-update c =
    rw (passed_on c.from_residual-in_err-update.ensures.1)
    (verify_refuses (message_refused c.in_ok-taken.ensures c.in_err-update.ensures) c.args.presented.now)

pub returns : goal.returns
returns c = c.verify.ensures ∙ message_verify ((message_taken c.in_ok-taken.ensures c.in_ok-update.ensures).whole _ refl) c.args.presented.now
