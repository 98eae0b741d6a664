-- `hmac::starting::KeyedDefault::default` is the definition's. Assumes nothing.
use Rattle.std.proofs.Common.{sym}
use Rattle.hmac.specs.Keyed.Open.{zero_is}
use Rattle.hmac.proofs.starting.KeyedDefault.default.Goals as goal

pub returns : goal.returns
returns c = sym zero_is
