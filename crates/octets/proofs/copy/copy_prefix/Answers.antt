-- `octets::copy::copy_prefix`: one element a turn. Assumes nothing.
use Rattle.std.proofs.Common.{◌≡◌, ◌∙◌, ◌++◌, ◌<◌, ap, arith, length-take, take, drop}
use Rattle.std.proofs.Math.ListN.{get_or, set}
use Rattle.std.proofs.lemmas.List.{get_or-take}
use Rattle.octets.specs.Copy.Laws.{copy_next}
use Rattle.octets.proofs.copy.copy_prefix.Goals as goal

pub loop-i-preserved : goal.loop-i-preserved
loop-i-preserved g c =
    let l = c.loop-i in
    let s = c.args.src.now in
    let o = c.args.out.now in
    let n = c.min-count.result in
    let x = c.element-item.result in
    let h : l.i < n = omega (arith, c.min-count.ensures, length-take n s) in
    let e : x ≡ get_or s l.i x = c.element-item.is ∙ get_or-take n s l.i x h in
    ap (λ y. set y l.i x) l.invariant
    ∙ ap (λ y. set (take l.i s ++ drop l.i o) l.i y) e
    ∙ copy_next x l.i s o (omega (arith, c.min-count.ensures, h)) (omega (arith, c.min-count.ensures, h))
