-- `ledger::submitting::submit`: the survey, the judgement and the entry together are what the definition says. Assumes nothing.
use Rattle.std.proofs.Common.{◌∙◌, rules}
use Rattle.ledger.proofs.Proved.Calls.Computed.{refused_is, accepted_is}
use Rattle.ledger.proofs.Proved.Inside.Laws.{used_within}
use Rattle.ledger.proofs.submitting.submit.Goals as goal

pub returns-in_err-record : goal.returns-in_err-record
returns-in_err-record c =
    let is = refused_is _ _ c.survey-tally.ensures _ (c.in_err-record.ensures) in
    search rules

pub enter-requires : goal.enter-requires
enter-requires c = rw c.survey-tally.ensures (used_within _)

pub returns : goal.returns
returns c = c.enter.ensures ∙ accepted_is _ _ c.survey-tally.ensures _ (c.in_ok-record.ensures)
