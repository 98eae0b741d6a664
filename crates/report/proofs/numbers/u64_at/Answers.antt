-- `report::numbers::u64_at`: the number that the bytes make. Assumes nothing.
use Rattle.std.proofs.Common.{◌∙◌, List, ℕ, ap}
use Rattle.std.specs.Int.{w64, from_be_bytes}
use Rattle.report.proofs.BigEndian.{eight}
use Rattle.report.proofs.numbers.u64_at.Goals as goal

pub returns : goal.returns
returns c =
    c.from_be_bytes.ensures ∙ ap (λ (l : List ℕ). from_be_bytes w64 l) c.bytes_at.ensures ∙ eight c.args.bytes.now c.args.at c.requires
