-- `hash::pieces::update`: its checks in their order, then the state after the piece. Assumes nothing.
use Rattle.std.proofs.Common.{sym, arith}
use Rattle.hash.specs.State.Laws.{sound_count}
use Rattle.hash.proofs.Proved.Calls.Laws.{update_not_sound, update_too_long, update_accepted}
use Rattle.hash.proofs.pieces.update.Goals as goal

pub returns-then-not-is_sound : goal.returns-then-not-is_sound
returns-then-not-is_sound c = sym (update_not_sound c.args.state.now c.args.piece.now (sym c.if-not-is_sound.ensures))

pub overflow_sub-state : goal.overflow_sub-state
overflow_sub-state c = sound_count c.args.state.now (sym c.if-not-is_sound.ensures)

pub returns-then-state-piece : goal.returns-then-state-piece
returns-then-state-piece c = sym (update_too_long c.args.state.now c.args.piece.now (sym c.if-not-is_sound.ensures) (omega arith))

pub taken-requires : goal.taken-requires
taken-requires c =
    let m = sound_count c.args.state.now (sym c.if-not-is_sound.ensures) in
    record { sound = sym c.if-not-is_sound.ensures; fits = omega arith }

pub returns : goal.returns
returns c =
    let m = sound_count c.args.state.now (sym c.if-not-is_sound.ensures) in
    rw c.taken.ensures (sym (update_accepted c.args.state.now c.args.piece.now (sym c.if-not-is_sound.ensures) (omega arith)))
