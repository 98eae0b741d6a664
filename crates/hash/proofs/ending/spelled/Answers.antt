-- `hash::ending::spelled`: one word a turn. Assumes nothing.
use Rattle.std.proofs.Common.{refl, arith}
use Rattle.hash.specs.Sha2.{spell}
use Rattle.hash.proofs.LastBlocks.{word_part, more}
use Rattle.hash.proofs.ending.spelled.Goals as goal

pub loop-i-init : goal.loop-i-init
unfolding spell
loop-i-init c = refl

pub loop-i-preserved : goal.loop-i-preserved
loop-i-preserved c =
    let size = c.word_size-size in
    more size.result c.args.words (omega arith) c.loop-i.invariant (word_part size.result _ size.ensures.1 c.eight_bytes-bytes.ensures) c.put_at.ensures
