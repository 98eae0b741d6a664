-- `hash::step::slide` is the ring one word on. Assumes nothing.
use Rattle.hash.proofs.Ring.{slide_code}
use Rattle.hash.proofs.step.slide.Goals as goal

pub returns : goal.returns
returns g c =
    slide_code g.W.Word.core g.W.Word.value c.args.ring c.well_formed.0.1.0.1 _ _ _ _ _ _ _ _ _ _ _ _ _ _ _ _ _ _ _ c.mix-next.ensures
