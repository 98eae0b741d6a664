-- `hash::step::rounds` makes those that slide the ring, and the last sixteen. Assumes nothing.
use Rattle.std.proofs.Common.{◌≡◌, ◌+◌, map, ap, ◌∙◌, arith}
use Rattle.hash.specs.Sha2.{schedule, rounds}
use Rattle.hash.specs.Ring.{sliding_rounds}
use Rattle.hash.proofs.Ring.{rounds_code}
use Rattle.hash.proofs.Sizes.{words_fit, progress_fits}
use Rattle.hash.proofs.step.rounds.Goals as goal

pub sliding_rounds-requires : goal.sliding_rounds-requires
sliding_rounds-requires g c = let room = g.met.W.Word.room in (words_fit room, (progress_fits room, c.requires))

pub last_rounds-requires : goal.last_rounds-requires
last_rounds-requires g c = let room = g.met.W.Word.room in (progress_fits room, words_fit room)

pub returns : goal.returns
returns g c =
    let core = g.W.Word.core in
    let numbers = map g.W.Word.value c.args.s in
    let sizes = g.met.W.Word.sizes in
    let all : sliding_rounds core + 16 ≡ core.rounds = omega (arith, sizes.rounds_is, sizes.more) in
    c.last_rounds.ensures
    ∙ rounds_code core c.args.b.now numbers 16 c.sliding_rounds.ensures
    ∙ ap (rounds core (schedule core c.args.b.now (sliding_rounds core)) numbers) all
