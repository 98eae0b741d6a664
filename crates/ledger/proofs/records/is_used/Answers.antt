-- `ledger::records::is_used` meets its contract. Assumes nothing.
use mathlib.Core.Path.{refl}
use Rattle.ledger.specs.Records.{used}
use Rattle.ledger.proofs.records.is_used.Goals as goal

pub returns : goal.returns
unfolding used
returns c = refl
