-- `ledger::records::first_word` meets its contract. Assumes nothing.
use Rattle.ledger.specs.Inside.{first_word}
use Rattle.ledger.proofs.records.first_word.Goals as goal

pub returns : goal.returns
unfolding first_word
returns c = c.from_be_bytes.ensures
