-- `hash::soundness::words_fit`: by the gathered bits, which fit 64 bits by their type. Assumes nothing.
use Rattle.std.proofs.Common.{◌^◌, ◌<◌, sym, ◌∙◌, rules, lt-ltb}
use Rattle.hash.specs.Description.{narrow, wide, core_of}
use Rattle.hash.proofs.soundness.words_fit.Goals as goal

pub returns-in-Narrow : goal.returns-in-Narrow
unfolding core_of narrow
returns-in-Narrow c = rw (c.width_of.ensures, c.in-Narrow.is) (c.gathered-bits.ensures 32)

pub returns-in-Wide : goal.returns-in-Wide
unfolding core_of wide
returns-in-Wide c =
    let bits = c.gathered-bits in
    let fits : bits.result < 2 ^ 64 = search rules in
    rw (c.width_of.ensures, c.in-Wide.is) (sym (lt-ltb bits.result (2 ^ 64) fits) ∙ bits.ensures 64)
