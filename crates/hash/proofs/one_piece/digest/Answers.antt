-- `hash::one_piece::digest`: a start, one piece and the end answer what the one-piece definition says. Assumes nothing.
use Rattle.std.proofs.Common.{◌∙◌}
use Rattle.algorithm.specs.Answers.Laws.{refusal_not_done, passed_on}
use Rattle.hash.proofs.Proved.Pieces.Laws.{start_refuses, piece_refuses, end_answers}
use Rattle.hash.proofs.one_piece.digest.Goals as goal

pub returns-in_err-state : goal.returns-in_err-state
returns-in_err-state c =
    rw (passed_on c.from_residual.ensures.1)
    (start_refuses c.args.hash_number c.args.message.now c.args.out.now (refusal_not_done _) c.in_err-state.ensures)

pub returns-in_err-update : goal.returns-in_err-update
returns-in_err-update c =
    rw (passed_on c.from_residual-in_err-update.ensures.1)
    (piece_refuses c.args.hash_number c.args.message.now c.args.out.now c.in_ok-state.ensures (refusal_not_done _) c.in_err-update.ensures)

pub returns : goal.returns
returns c =
    c.finish.ensures ∙ end_answers c.args.hash_number c.args.message.now c.args.out.now c.in_ok-state.ensures c.in_ok-update.ensures
