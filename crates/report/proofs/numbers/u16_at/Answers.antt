-- `report::numbers::u16_at`: the number that the bytes make. Assumes nothing.
use Rattle.std.proofs.Common.{◌∙◌, List, ℕ, ap}
use Rattle.std.specs.Int.{w16, from_be_bytes}
use Rattle.report.proofs.BigEndian.{two}
use Rattle.report.proofs.numbers.u16_at.Goals as goal

pub returns : goal.returns
returns c =
    c.from_be_bytes.ensures ∙ ap (λ (l : List ℕ). from_be_bytes w16 l) c.bytes_at.ensures ∙ two c.args.bytes.now c.args.at c.requires
