-- `hash::pieces::placed`: the bytes over zeros. Assumes nothing.
use Rattle.std.proofs.Common.{◌∙◌}
use Rattle.octets.specs.Parts.{paste_zeros}
use Rattle.hash.proofs.pieces.placed.Goals as goal

pub returns : goal.returns
returns c = c.put_at.ensures ∙ paste_zeros 128 c.args.bytes.now
