-- `report::numbers::u32_at`: the number that the bytes make. Assumes nothing.
use Rattle.std.proofs.Common.{◌∙◌, List, ℕ, ap}
use Rattle.std.specs.Int.{w32, from_be_bytes}
use Rattle.report.proofs.BigEndian.{four}
use Rattle.report.proofs.numbers.u32_at.Goals as goal

pub returns : goal.returns
returns c =
    c.from_be_bytes.ensures ∙ ap (λ (l : List ℕ). from_be_bytes w32 l) c.bytes_at.ensures ∙ four c.args.bytes.now c.args.at c.requires
