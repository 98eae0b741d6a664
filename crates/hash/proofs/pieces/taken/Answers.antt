-- `hash::pieces::taken`: a piece fills a block or it does not. Assumes nothing.
use Rattle.std.proofs.Common.{ℕ, ◌+◌, List, length, sym, ap, ◌∙◌, arith}
use Rattle.algorithm.specs.Hashes.{block_of}
use Rattle.algorithm.specs.Hashes.Laws.{block_positive}
use Rattle.hash.specs.Description.{describe}
use Rattle.hash.specs.Blocks.Laws.{run_none, words_none}
use Rattle.hash.specs.Sha2.{step}
use Rattle.hash.specs.Inside.{onward_of}
use Rattle.hash.specs.State.Laws.{waiting_less, sound_words}
use Rattle.hash.specs.State.Open.{appended_after, straight_after}
use Rattle.hash.proofs.pieces.taken.Goals as goal

pub returns-then-piece-room : goal.returns-then-piece-room
returns-then-piece-room c =
    let s = c.args.state.now in
    let waits = c.waiting_count-at.ensures in
    c.appended.ensures
    ∙ rw waits
    (appended_after s c.args.piece.now (omega arith) c.requires.sound (omega (arith, waits, c.block_size.ensures, waiting_less s)))

pub onward-requires : goal.onward-requires
onward-requires c =
    (sound_words c.args.state.now c.requires.sound, run_none (block_of c.args.state.now.hash))

pub returns-then-at-eq0 : goal.returns-then-at-eq0
returns-then-at-eq0 c =
    let s = c.args.state.now in
    let piece = c.args.piece.now in
    c.onward.ensures
    ∙ ap (λ (ws : List ℕ). onward_of s.hash ws (s.count + length piece) piece)
    (words_none (block_of s.hash) (step (describe s.hash).core) s.words (block_positive s.hash))
    ∙ straight_after s piece (sym c.waiting_count-at.ensures ∙ c.if-at-eq0.true)

pub filled-requires : goal.filled-requires
filled-requires c =
    let s = c.args.state.now in
    let a = c.waiting_count-at.ensures in
    let b = c.block_size.ensures in
    let l = waiting_less s in
    record { waits = a; fills = omega arith; within = omega arith; fits = c.requires.fits; words = sound_words s c.requires.sound }
