-- `ledger::surveying::survey`: the tally is that of the records passed. Assumes nothing.
use Rattle.std.proofs.Common.{◌≡◌, take}
use Rattle.ledger.specs.Inside.{tally_of}
use Rattle.ledger.proofs.surveying.survey.Given as goal

abbrev pub invariant-loop-i : goal.invariant-loop-i
invariant-loop-i l = l.tally ≡ tally_of (take l.i l.records)
