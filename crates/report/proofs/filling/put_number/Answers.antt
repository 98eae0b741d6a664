-- `report::filling::put_number`: the last of the number's eight bytes, copied to their place. Assumes nothing.
use Rattle.std.proofs.Common.{◌≡◌, refl, ap, ◌∙◌, ◌-◌, ℕ, List, arith, length, take, drop}
use Rattle.std.proofs.Math.Seq.{paste}
use Rattle.octets.specs.Copy.{over}
use Rattle.octets.specs.Number.{bytes}
use Rattle.octets.specs.Number.Laws.{bytes_length, bytes_last}
use Rattle.octets.specs.Parts.{part_all, part_put}
use Rattle.report.proofs.filling.put_number.Goals as goal

pub returns : goal.returns
returns c =
    let n = c.args.number in
    let size = c.args.size in
    let at = c.args.at in
    let out = c.args.out.now in
    let all = c.eight_bytes-all in
    let long : length (bytes size n) ≡ size = bytes_length size n in
    let low : take (8 - (8 - size)) (drop (8 - size) all.result) ≡ bytes size n =
    part_all all.result 8 (8 - size) (ap length all.ensures ∙ bytes_length 8 n)
    ∙ ap (drop (8 - size)) all.ensures
    ∙ bytes_last 8 size n c.requires.short
    in
    let rest : List ℕ = take (length out - at) (drop at out) in
    part_put out (bytes size n) c.copy_prefix.new.out at (length out - at) refl (omega arith)
    (c.copy_prefix.ensures ∙ ap (λ (l : List ℕ). over l rest) low)
    ∙ ap (paste out at (bytes size n)) long
