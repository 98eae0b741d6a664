-- `hash::table::first_words` are the definition's first words. Assumes nothing.
use Rattle.hash.specs.Table.{first64, first32}
use Rattle.hash.specs.Description.{describe}
use Rattle.hash.proofs.table.first_words.Goals as goal

pub returns-in-Sha256 : goal.returns-in-Sha256
unfolding describe first32 first64
returns-in-Sha256 c = rw c.in-Sha256.is

pub returns-in-Sha512 : goal.returns-in-Sha512
unfolding describe first64
returns-in-Sha512 c = rw c.in-Sha512.is
