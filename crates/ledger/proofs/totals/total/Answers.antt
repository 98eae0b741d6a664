-- `ledger::totals::total`: what the survey of the records says is what the definition does. Assumes nothing.
use Rattle.ledger.proofs.Proved.Calls.Computed.{total_is}
use Rattle.ledger.proofs.totals.total.Goals as goal

pub returns : goal.returns
returns c = rw (c.sum_in.ensures, c.survey.ensures) (total_is _)
