-- `stream::taking::take_head`: up to the fourth byte, and on with the rest of the piece where the total is in range. Assumes nothing.
use Rattle.stream.specs.Calls.{Fed, fed_by}
use mathlib.Core.Path.{◌≡◌, refl, sym, ap, ◌∙◌}
use mathlib.Core.Bool.{true, false}
use mathlib.Core.List.{List}
use Prim.Native.Nat.{ℕ, ◌-◌}
use native.Mathlib.Omega.{arith}
use lib.ListN.{length, take, drop}
use borrow.Author.Rules.{rules}
use Rattle.octets.specs.Parts.{part_all}
use Rattle.stream.specs.Stream.{in_range}
use Rattle.stream.proofs.Goals.{head_more, head_closing, head_waiting, head_on, head_used}
use Rattle.stream.proofs.taking.take_head.Goals as goal

-- the rest of a piece, as a loan has it
rest : ℕ → List ℕ → List ℕ
rest c p = take (length p - (4 - c)) (drop (4 - c) p)

rest_is : (c : ℕ) (p : List ℕ) → rest c p ≡ drop (4 - c) p
unfolding rest
rest_is c p = part_all p (length p) (4 - c) refl

pub returns-then-piece-to_fourth : goal.returns-then-piece-to_fourth
returns-then-piece-to_fourth c =
    let col = c.collect in
    ap (λ (f : Fed). (f, col.new.buffer)) c.more.ensures
    ∙ head_more c.args.collected c.args.buffer.now c.args.piece.now c.requires.waiting c.requires.head_waits col.new.buffer col.ensures (omega arith)

pub returns-then-not-in_range : goal.returns-then-not-in_range
returns-then-not-in_range c =
    let col = c.collect in
    let total = c.total_of-total in
    let out : in_range total.result ≡ false = sym c.in_range.ensures ∙ c.if-not-in_range.true in
    ap (λ (f : Fed). (f, col.new.buffer)) c.closing.ensures
    ∙ head_closing c.args.collected c.args.buffer.now c.args.piece.now c.requires.waiting c.requires.head_waits col.new.buffer col.ensures (omega arith) total.result total.ensures out

pub take_body-fed-requires : goal.take_body-fed-requires
take_body-fed-requires c =
    let col = c.collect in
    let total = c.total_of-total in
    let in_it : in_range total.result ≡ true = sym c.in_range.ensures ∙ c.if-not-in_range.false in
    record { waiting = head_waiting c.args.collected c.args.buffer.now c.args.piece.now c.requires.waiting c.requires.head_waits col.new.buffer col.ensures (omega arith) total.result total.ensures in_it; head_collected = search rules }

pub later-requires : goal.later-requires
unfolding rest
later-requires c =
    let col = c.collect in
    let total = c.total_of-total in
    let in_it : in_range total.result ≡ true = sym c.in_range.ensures ∙ c.if-not-in_range.false in
    let body = c.take_body-fed in
    let p = c.args.piece.now in
    omega (arith, head_used c.args.collected c.args.buffer.now c.args.piece.now c.requires.waiting c.requires.head_waits col.new.buffer col.ensures (omega arith) total.result total.ensures in_it (rest c.args.collected p) (fed_by body.result) body.new.buffer (rest_is c.args.collected p) body.ensures)

pub returns : goal.returns
unfolding rest
returns c =
    let col = c.collect in
    let total = c.total_of-total in
    let in_it : in_range total.result ≡ true = sym c.in_range.ensures ∙ c.if-not-in_range.false in
    let body = c.take_body-fed in
    let p = c.args.piece.now in
    ap (λ (f : Fed). (f, body.new.buffer)) c.later.ensures
    ∙ head_on c.args.collected c.args.buffer.now c.args.piece.now c.requires.waiting c.requires.head_waits col.new.buffer col.ensures (omega (arith, c.if-piece-to_fourth.false)) total.result total.ensures in_it (rest c.args.collected p) (fed_by body.result) body.new.buffer (rest_is c.args.collected p) body.ensures
