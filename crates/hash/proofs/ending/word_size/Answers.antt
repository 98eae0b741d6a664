-- `hash::ending::word_size` is the description's, by the width. Assumes nothing.
use Rattle.std.proofs.Common.{arith}
use Rattle.hash.specs.Description.{narrow, wide, core_of}
use Rattle.hash.proofs.ending.word_size.Goals as goal

pub returns-in-Narrow : goal.returns-in-Narrow
unfolding core_of narrow
returns-in-Narrow c = (rw (c.width_of.ensures, c.in-Narrow.is), omega arith)

pub returns-in-Wide : goal.returns-in-Wide
unfolding core_of wide
returns-in-Wide c = (rw (c.width_of.ensures, c.in-Wide.is), omega arith)
