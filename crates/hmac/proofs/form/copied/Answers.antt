-- `hmac::form::copied`: over zeros. Assumes nothing.
use Rattle.std.proofs.Common.{◌∙◌}
use Rattle.octets.specs.Zeros.Laws.{over_zeros}
use Rattle.hmac.proofs.form.copied.Goals as goal

pub returns : goal.returns
returns c = c.copy_prefix.ensures ∙ over_zeros 128 c.args.bytes.now c.requires
