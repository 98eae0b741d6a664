-- `hash::starting::StateDefault::default` is the definition's. Assumes nothing.
use Rattle.std.proofs.Common.{sym}
use Rattle.hash.specs.State.Open.{fresh_is, zero_is}
use Rattle.hash.proofs.starting.StateDefault.default.Goals as goal

pub returns : goal.returns
returns c = rw (c.fresh.ensures, fresh_is) (sym zero_is)
