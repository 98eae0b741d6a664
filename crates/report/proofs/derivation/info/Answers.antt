-- `report::derivation::info`: the tenant's four bytes, and the machine's eight. Assumes nothing.
use Rattle.std.proofs.Common.{◌<◌, arith}
use Rattle.std.proofs.Math.Nat.{mod-eq_of_lt, div-div-eq-div-mul}
use Rattle.octets.specs.Number.{bytes}
use Rattle.report.specs.Keys.{info_of}
use Rattle.report.proofs.derivation.info.Goals as goal

pub returns : goal.returns
unfolding bytes info_of
returns c =
    let small : c.args.purpose < 256 = omega arith in
    rw (c.to_be_bytes-t.ensures, c.to_be_bytes-m.ensures, mod-eq_of_lt small) (simp div-div-eq-div-mul)
