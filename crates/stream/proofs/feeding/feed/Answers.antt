-- `stream::feeding::feed`: its checks in their order, then the bytes. Assumes nothing.
use Rattle.stream.specs.Calls.{Fed}
use mathlib.Core.Path.{◌≡◌, sym, ap, ◌∙◌}
use mathlib.Core.Logic.{inl, inr}
use mathlib.Core.Bool.{false}
use native.Mathlib.Omega.{arith}
use lib.ListN.{take}
use Rattle.stream.specs.Stream.{waits}
use Rattle.stream.proofs.Proved.Calls.Laws.{feed_not_sound, feed_wrong_size, feed_closed, waits_pass, passed_answer}
use Rattle.stream.specs.Inside.{Waiting}
use Rattle.stream.proofs.Proved.Inside.Laws.{held_lost}
use Rattle.stream.proofs.feeding.feed.Goals as goal

pub returns-then-collected-gt-MOST_COLLECTED : goal.returns-then-collected-gt-MOST_COLLECTED
returns-then-collected-gt-MOST_COLLECTED c =
    let buffer = c.args.buffer.now in
    let piece = c.args.piece.now in
    ap (λ (f : Fed). (f, buffer)) c.refused.ensures ∙ sym ((feed_not_sound c.args.state buffer piece).1 (inl (omega arith)))

pub returns-then-buffer-ne-LARGEST_REPORT : goal.returns-then-buffer-ne-LARGEST_REPORT
returns-then-buffer-ne-LARGEST_REPORT c =
    let buffer = c.args.buffer.now in
    let piece = c.args.piece.now in
    ap (λ (f : Fed). (f, buffer)) c.refused-then-buffer-ne-LARGEST_REPORT.ensures
    ∙ sym ((feed_wrong_size c.args.state buffer piece).1 (omega arith, c.if-buffer-ne-LARGEST_REPORT.true))

pub returns-then-state-ne0 : goal.returns-then-state-ne0
returns-then-state-ne0 c =
    let buffer = c.args.buffer.now in
    let piece = c.args.piece.now in
    ap (λ (f : Fed). (f, buffer)) c.refused-then-state-ne0.ensures
    ∙ sym ((feed_closed c.args.state buffer piece).1 (omega arith, c.if-buffer-ne-LARGEST_REPORT.false, c.if-state-ne0.true))

pub returns-then-not-waits : goal.returns-then-not-waits
returns-then-not-waits c =
    let buffer = c.args.buffer.now in
    let piece = c.args.piece.now in
    let w : waits (take c.args.state.collected buffer) ≡ false = sym c.waits.ensures ∙ c.if-not-waits.true in
    let size = c.if-buffer-ne-LARGEST_REPORT.false in
    let lost = (held_lost c.args.state.collected buffer (omega (arith, size))).0 w in
    ap (λ (f : Fed). (f, buffer)) c.refused-then-not-waits.ensures
    ∙ sym ((feed_not_sound c.args.state buffer piece).1 (inr (omega arith, size, c.if-state-ne0.false, lost.0, lost.1)))

pub returns : goal.returns
returns c =
    let buffer = c.args.buffer.now in
    let piece = c.args.piece.now in
    let o : Waiting c.args.state.collected buffer =
    record {
      few = omega arith;
      size = c.if-buffer-ne-LARGEST_REPORT.false;
      wait = sym c.waits.ensures ∙ c.if-not-waits.false;
    }
    in
    c.take_in.ensures ∙ sym (passed_answer c.args.state buffer piece (waits_pass c.args.state buffer c.if-state-ne0.false o))
