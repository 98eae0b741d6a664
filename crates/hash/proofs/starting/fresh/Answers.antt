-- `hash::starting::fresh` is the definition's. Assumes nothing.
use Rattle.hash.specs.State.Open.{fresh_is}
use Rattle.hash.proofs.starting.fresh.Goals as goal

pub returns : goal.returns
returns c = rw (fresh_is, c.first_words.ensures)
