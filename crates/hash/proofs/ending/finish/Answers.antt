-- `hash::ending::finish`: its checks in their order, then the digest. Assumes nothing.
use Rattle.std.proofs.Common.{sym, ◌∙◌, ap}
use Rattle.algorithm.specs.Refusals.{done}
use Rattle.hash.specs.State.Laws.{sound_count, sound_words}
use Rattle.algorithm.specs.Checks.{written}
use Rattle.hash.proofs.Proved.Calls.Laws.{finish_not_sound, finish_wrong_size, finish_accepted}
use Rattle.hash.proofs.LastBlocks.{digest_over}
use Rattle.hash.proofs.ending.finish.Goals as goal

pub returns-then-not-sound : goal.returns-then-not-sound
returns-then-not-sound c = sym (finish_not_sound c.args.state c.args.out.now (sym c.if-not-sound.ensures))

pub returns-then-out-digest_size : goal.returns-then-out-digest_size
returns-then-out-digest_size c =
    sym (finish_wrong_size c.args.state c.args.out.now (sym c.if-not-sound.ensures)
    (λ e. c.if-out-digest_size.true (e ∙ sym c.digest_size.ensures)))

pub last_words-requires : goal.last_words-requires
last_words-requires c =
    let s = c.args.state in
    record { count = sound_count s (sym c.if-not-sound.ensures); words = sound_words s (sym c.if-not-sound.ensures) }

pub returns : goal.returns
returns c =
    let s = c.args.state in
    let out = c.args.out.now in
    let size = c.if-out-digest_size.false ∙ c.digest_size.ensures in
    let last = c.last_words in
    let digest = digest_over s last.result out last.type_inv.1.0.1 size last.ensures in
    ap (written done) (rw c.spelled-bytes.ensures at c.copy_prefix.ensures ∙ digest)
    ∙ sym (finish_accepted s out (sym c.if-not-sound.ensures) size)
