-- `hash::step::last_rounds` is sixteen rounds over a ring that stays. Assumes nothing.
use Rattle.std.proofs.Common.{◌≡◌, ◌-◌, map, arith}
use Rattle.hash.specs.Ring.{sliding_rounds}
use Rattle.hash.proofs.Ring.{round_sixteen}
use Rattle.hash.proofs.step.last_rounds.Goals as goal

pub returns : goal.returns
returns g c =
    let word = g.W.Word in
    let progress = c.args.progress in
    let last : c.ROUNDS-t.result - 16 ≡ sliding_rounds word.core = omega (arith, c.ROUNDS-t.ensures, g.met.W.Word.sizes.rounds_is) in
    round_sixteen word.core word.value progress.ring (map word.value progress.variables) _ c.well_formed.0.1.1.1.1.0.1.0.1 last _ _ _ _ _ _ _ _ _ _ _ _ _ _ _ _
    c.round_at-v1.ensures c.round_at-v2.ensures
    c.round_at-v3.ensures c.round_at-v4.ensures c.round_at-v5.ensures c.round_at-v6.ensures c.round_at-v7.ensures
    c.round_at-v8.ensures c.round_at-v9.ensures c.round_at-v10.ensures c.round_at-v11.ensures c.round_at-v12.ensures
    c.round_at-v13.ensures c.round_at-v14.ensures c.round_at-v15.ensures c.round_at.ensures
