-- The bytes that were read spell the number. Assumes nothing.
use Rattle.std.proofs.Common.{subst, rules}
use Rattle.std.specs.Io.KnownBytes.{Consumes}
use Rattle.cases.proofs.Spelled.{spelled_4}
use Rattle.cases.proofs.parts.U32Number.read_from.Goals as goal

pub returns : goal.returns
returns g c =
    subst (Consumes _ _) (spelled_4 c.in_ok-array.field-0 c.from_be_bytes.result (search rules) (search rules) c.from_be_bytes.ensures)
    c.in_ok-array.ensures
