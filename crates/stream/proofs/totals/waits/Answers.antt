-- `stream::totals::waits`: by the number of bytes, the range of the total, and the total. Assumes nothing.
use mathlib.Core.Path.{◌≡◌, sym, ap, ◌∙◌}
use mathlib.Core.Bool.{true, false}
use Prim.Native.Nat.{ℕ}
use native.Mathlib.Omega.{arith}
use lib.Dec.{ltb}
use lib.ListN.{length}
use Rattle.stream.specs.Stream.{total_of, in_range}
use Rattle.stream.proofs.Proved.Stream.Laws.{waits_short, waits_out, waits_in}
use Rattle.stream.proofs.totals.waits.Goals as goal

pub returns-then-bytes-lt-COUNT : goal.returns-then-bytes-lt-COUNT
returns-then-bytes-lt-COUNT c = sym (waits_short c.args.bytes.now (omega arith))

pub returns-then-not-in_range : goal.returns-then-not-in_range
returns-then-not-in_range c =
    let s = c.args.bytes.now in
    let out : in_range (total_of s) ≡ false = ap in_range (sym c.total_of-total.ensures) ∙ sym c.in_range.ensures ∙ c.if-not-in_range.true in
    sym (waits_out s (omega arith) out)

pub returns : goal.returns
returns c =
    let s = c.args.bytes.now in
    let e = c.total_of-total.ensures in
    let in_it : in_range (total_of s) ≡ true = ap in_range (sym e) ∙ sym c.in_range.ensures ∙ c.if-not-in_range.false in
    ap (λ (t : ℕ). ltb (length s) t) e ∙ sym (waits_in s (omega arith) in_it)
