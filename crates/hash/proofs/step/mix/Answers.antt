-- `hash::step::mix` is the definition's, from its parts. Assumes nothing.
use Rattle.hash.proofs.Rounds.{mix_code}
use Rattle.hash.proofs.step.mix.Goals as goal

pub returns : goal.returns
returns g c =
    let value = g.W.Word.value in
    let x = c.args in
    mix_code g.W.Word.core (value x.w2) (value x.w7) (value x.w15) (value x.w16) c.small1.ensures
    c.add.ensures c.small0.ensures c.add-2.ensures c.add-3.ensures
