-- `hash::ending::padded_end`: one block where the length still fits it, else two. Assumes nothing.
use Rattle.std.proofs.Common.{arith}
use Rattle.hash.specs.Description.{describe}
use Rattle.hash.specs.Sha2.{block_size, field_size}
use Rattle.hash.specs.Digest.Laws.{described}
use Rattle.hash.proofs.LastBlocks.{end_one, end_two}
use Rattle.hash.proofs.ending.padded_end.Goals as goal

pub returns-then-at-word : goal.returns-then-at-word
unfolding block_size field_size
returns-then-at-word c =
    let d = described c.args.hash in
    rw c.word_size-word.ensures.0 (end_one (describe c.args.hash).core d.word_least c.args.at (omega arith))

pub returns : goal.returns
unfolding block_size field_size
returns c =
    let d = described c.args.hash in
    rw c.word_size-word.ensures.0 (end_two (describe c.args.hash).core d.word_least c.args.at (omega arith) (omega arith))
