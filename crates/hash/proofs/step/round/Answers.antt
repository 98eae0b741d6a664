-- `hash::step::round` is the definition's, from its parts. Assumes nothing.
use Rattle.hash.proofs.Rounds.{round_code}
use Rattle.hash.proofs.step.round.Goals as goal

pub returns : goal.returns
returns g c =
    let value = g.W.Word.value in
    round_code g.W.Word.core value c.args.s c.well_formed.0.1.0.1 (value c.args.k) (value c.args.w) _ _ _ _ _ _ _ _ c.t1-x.ensures
    c.t2.ensures c.add.ensures c.add-2.ensures
