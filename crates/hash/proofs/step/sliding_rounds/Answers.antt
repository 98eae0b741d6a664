-- `hash::step::sliding_rounds` makes eight rounds a turn. Assumes nothing.
use Rattle.std.proofs.Common.{◌+◌, ◌*◌, map, arith}
use Rattle.hash.proofs.Ring.{progress_first, advanced_code}
use Rattle.hash.proofs.step.sliding_rounds.Goals as goal

pub loop-i-init : goal.loop-i-init
loop-i-init g c = progress_first g.W.Word.core c.args.b.now (map g.W.Word.value c.args.s) c.block_words.ensures

pub loop-i-preserved : goal.loop-i-preserved
loop-i-preserved g c =
    let at = c.loop-i in
    let sizes = g.met.W.Word.sizes in
    advanced_code g.W.Word.core c.args.b.now (map g.W.Word.value c.args.s) (8 * at.i) 8 (8 * (at.i + 1)) at.invariant
    c.advance_eight-progress.ensures (omega arith) (omega (arith, c.ROUNDS.ensures, sizes.rounds_is, sizes.eights))
