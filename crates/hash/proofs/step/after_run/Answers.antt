-- `hash::step::after_run` takes one block a turn. Assumes nothing.
use Rattle.std.proofs.Common.{◌∙◌, arith}
use Rattle.hash.specs.Blocks.{words_after}
use Rattle.hash.proofs.Sizes.{block_is, block_some, words_fit}
use Rattle.hash.proofs.Loops.{untaken, one_more, all_taken}
use Rattle.hash.proofs.step.after_run.Goals as goal

pub loop-block-init : goal.loop-block-init
loop-block-init g c =
    let items = c.chunks_exact-block-items.ensures in
    rw c.into_iter-block-iterator.ensures.into_iter_gives
    (untaken _ (items.size ∙ block_is g.met.W.Word.sizes c.BYTES.ensures) items.rest)

pub step-v-requires : goal.step-v-requires
step-v-requires g c =
    (words_fit g.met.W.Word.room, omega (arith, c.loop-block.invariant.size_is, c.in-Some.ensures.steps.1.1))

pub loop-block-preserved : goal.loop-block-preserved
loop-block-preserved g c =
    let turn = c.in-Some.ensures.steps in
    one_more c.loop-block.invariant _ (block_some g.met.W.Word.sizes) turn.1.0 turn.1.1 turn.0 c.step-v.ensures

pub returns : goal.returns
unfolding words_after
returns g c = all_taken c.loop-block.invariant c.in-None.ensures.steps.1.0
