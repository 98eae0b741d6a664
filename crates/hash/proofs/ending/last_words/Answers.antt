-- `hash::ending::last_words`: the words after the last blocks, which are a run. Assumes nothing.
use Rattle.std.proofs.Common.{take, sym, refl, ◌∙◌, arith, length-take-le}
use Rattle.algorithm.specs.Hashes.{block_of}
use Rattle.algorithm.specs.Hashes.Laws.{block_positive}
use Rattle.hash.specs.Description.{describe}
use Rattle.hash.specs.Blocks.Laws.{run_none, words_none}
use Rattle.hash.specs.Sha2.{step}
use Rattle.hash.specs.State.Laws.{waiting_most}
use Rattle.hash.proofs.LastBlocks.{last_range, last_run, last_words_is}
use Rattle.hash.proofs.ending.last_words.Goals as goal

pub put_last_blocks-requires : goal.put_last_blocks-requires
put_last_blocks-requires c =
    let r = last_range c.args.state _ _ c.waiting_count-at.ensures c.padded_end-end.ensures in
    (refl, omega arith, omega arith)

pub slice_bounds-last-end : goal.slice_bounds-last-end
slice_bounds-last-end c = omega (arith, last_range c.args.state _ _ c.waiting_count-at.ensures c.padded_end-end.ensures)

pub slice_bounds-words_after-end : goal.slice_bounds-words_after-end
slice_bounds-words_after-end c =
    let r = last_range c.args.state _ _ c.waiting_count-at.ensures c.padded_end-end.ensures in
    sym (length-take-le _ _ (omega (arith, c.put_last_blocks.ensures.last_len)))

pub words_after-requires : goal.words_after-requires
words_after-requires c =
    let s = c.args.state in
    let end = c.padded_end-end in
    let last = c.put_last_blocks in
    let r = last_range s _ _ c.waiting_count-at.ensures end.ensures in
    let l = length-take-le end.result last.new.last (omega (arith, last.ensures.last_len)) in
    (c.requires.words, last_run s _ end.result (take end.result last.new.last) end.ensures l, run_none (block_of s.hash))

pub returns : goal.returns
returns c =
    let s = c.args.state in
    let a = c.waiting_count-at in
    let l = length-take-le a.result s.waiting (omega (arith, a.ensures, waiting_most s)) in
    c.words_after.ensures
    ∙ words_none (block_of s.hash) (step (describe s.hash).core) _ (block_positive s.hash)
    ∙ last_words_is s _ _ _ c.requires.count a.ensures c.padded_end-end.ensures (rw l at c.put_last_blocks.ensures.last_after)
