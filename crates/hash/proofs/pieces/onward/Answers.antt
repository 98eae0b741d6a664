-- `hash::pieces::onward`: a run, then the run of the whole blocks, and what they leave. Assumes nothing.
use Rattle.algorithm.specs.Hashes.{block_of}
use Rattle.algorithm.specs.Hashes.Laws.{block_positive}
use Rattle.hash.specs.Description.{describe}
use Rattle.hash.specs.Sha2.{step}
use Rattle.hash.specs.State.{words_of}
use Rattle.hash.specs.Blocks.Laws.{cut_run, left_part, words_cut}
use Rattle.hash.proofs.pieces.onward.Goals as goal

pub words_after-requires : goal.words_after-requires
words_after-requires c =
    (c.requires.0, c.requires.1, rw c.block_size.ensures (cut_run (block_of c.args.hash) c.args.bytes.now))

pub returns : goal.returns
returns c =
    let h = c.args.hash in
    let bytes = c.args.bytes.now in
    let ws = words_of h c.args.words c.args.run.now in
    rw (c.words_after.ensures, c.placed.ensures, c.block_size.ensures, left_part (block_of h) bytes, words_cut (block_of h) (step (describe h).core) ws bytes (block_positive h))
