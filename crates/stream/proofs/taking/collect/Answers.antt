-- `stream::taking::collect`: the copy goes as far as the piece and the part both do. Assumes nothing.
use Rattle.stream.proofs.Collecting.{is_collected}
use Rattle.stream.proofs.taking.collect.Goals as goal

pub returns : goal.returns
returns c =
    is_collected c.args.collected c.args.goal c.args.buffer.now c.args.piece.now _ c.requires.ahead c.requires.room c.copy_prefix.ensures
