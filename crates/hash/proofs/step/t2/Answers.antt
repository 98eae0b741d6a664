-- `hash::step::t2` is the definition's, from its parts. Assumes nothing.
use Rattle.hash.proofs.Rounds.{t2_code}
use Rattle.hash.proofs.step.t2.Goals as goal

pub returns : goal.returns
returns g c =
    let value = g.W.Word.value in
    t2_code g.W.Word.core (value c.args.a) (value c.args.b) (value c.args.c) c.big0.ensures c.maj.ensures c.add.ensures
