-- `hash::step::t1` is the definition's, from its parts. Assumes nothing.
use Rattle.hash.proofs.Rounds.{t1_code}
use Rattle.hash.proofs.step.t1.Goals as goal

pub returns : goal.returns
returns g c =
    let value = g.W.Word.value in
    let x = c.args in
    t1_code g.W.Word.core (value x.e) (value x.f) (value x.g) (value x.h) (value x.k) (value x.w)
    c.big1.ensures c.add.ensures c.ch.ensures c.add-2.ensures c.add-3.ensures c.add-4.ensures
