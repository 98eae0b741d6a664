-- `hmac::pieces::update`: its checks in their order, then the inner hash after the piece. Assumes nothing.
use Rattle.std.proofs.Common.{refl, sym}
use Rattle.algorithm.specs.Answers.Laws.{refusal_not_done, passed_on}
use Rattle.hmac.specs.Calls.Laws.{update_not_sound}
use Rattle.hmac.specs.Calls.Inner.{inner_refuses, inner_takes}
use Rattle.hmac.proofs.pieces.update.Goals as goal

pub returns-then-not-sound : goal.returns-then-not-sound
returns-then-not-sound c = sym (update_not_sound c.args.keyed.now c.args.piece.now (sym c.if-not-sound.ensures))

pub returns-in_err-update : goal.returns-in_err-update
returns-in_err-update c =
    rw (passed_on c.from_residual.ensures.1)
    (inner_refuses c.args.keyed.now c.args.piece.now (sym c.if-not-sound.ensures) (rw c.inner-inner.ensures at c.in_err-update.ensures) (refusal_not_done _))

pub returns : goal.returns
returns c =
    inner_takes c.args.keyed.now c.args.piece.now (sym c.if-not-sound.ensures) (rw c.inner-inner.ensures at c.in_ok-update.ensures) refl c.join.ensures
