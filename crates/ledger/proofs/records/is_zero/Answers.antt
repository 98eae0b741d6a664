-- `ledger::records::is_zero` meets its contract: the two numbers, then the bytes. Assumes nothing.
use Rattle.std.proofs.Common.{rules}
use Rattle.ledger.specs.Records.{is_zero}
use Rattle.ledger.proofs.records.is_zero.Goals as goal

pub returns-then-record-eq0-2 : goal.returns-then-record-eq0-2
unfolding is_zero
returns-then-record-eq0-2 c = search rules

pub returns-else-record-eq0-2 : goal.returns-else-record-eq0-2
unfolding is_zero
returns-else-record-eq0-2 c = search rules
