-- `hash::width::width_of` leads to the description's core, by cases. Assumes nothing.
use Rattle.hash.specs.Description.{describe, core_of}
use Rattle.hash.proofs.width.width_of.Goals as goal

pub returns-in-Sha256 : goal.returns-in-Sha256
unfolding describe core_of
returns-in-Sha256 c = rw c.in-Sha256.is

pub returns-in-Sha512 : goal.returns-in-Sha512
unfolding describe core_of
returns-in-Sha512 c = rw c.in-Sha512.is
