-- `hash::blocks::words_after` takes one run a turn. Assumes nothing.
use Rattle.std.proofs.Common.{◌≡◌, ◌+◌, sym, refl, ap, ◌∙◌, add-one, arith}
use Rattle.hash.specs.State.{words_of}
use Rattle.hash.specs.State.Laws.{words_fit}
use Rattle.hash.proofs.TwoRuns.{run_at, words_at}
use Rattle.hash.proofs.blocks.words_after.Goals as goal

pub loop-init : goal.loop-init
unfolding words_at run_at
loop-init c = (c.requires.0, refl, refl)

pub loop-preserved : goal.loop-preserved
unfolding words_at run_at
loop-preserved c =
    let h = c.args.hash in
    let first = c.args.first.now in
    let second = c.args.second.now in
    let loop = c.loop in
    let e : words_of h loop.v loop.run.now ≡ words_at h c.args.words first second (loop.counter + 1) =
    (λ i. words_of h (loop.invariant.1 i) (loop.invariant.2 i)) ∙ ap (words_at h c.args.words first second) (sym (add-one loop.counter))
    in
    (rw c.after_run-n.ensures (words_fit h loop.v loop.run.now loop.invariant.0), c.after_run-n.ensures ∙ e, ap (run_at first second) (sym (add-one loop.counter)))

pub returns : goal.returns
unfolding words_at run_at
returns c =
    let two : c.loop.counter ≡ 2 = omega arith in
    c.loop.invariant.1 ∙ ap (words_at c.args.hash c.args.words c.args.first.now c.args.second.now) two
