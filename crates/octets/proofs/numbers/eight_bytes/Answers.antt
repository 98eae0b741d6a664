-- `octets::numbers::eight_bytes` meets its contract. Assumes nothing.
use Rattle.std.proofs.Common.{◌∙◌}
use Rattle.std.proofs.Math.Nat.{div-div-eq-div-mul}
use Rattle.octets.specs.Number.{bytes}
use Rattle.octets.proofs.numbers.eight_bytes.Goals as goal

pub returns : goal.returns
unfolding bytes
returns c = c.to_be_bytes.ensures ∙ simp div-div-eq-div-mul
