-- `hash::ending::spelled`: one word a turn, over zeros. Assumes nothing.
use Rattle.std.proofs.Common.{◌≡◌, take}
use Rattle.octets.specs.Zeros.{zeros_to}
use Rattle.hash.specs.Sha2.{spell}
use Rattle.hash.proofs.ending.spelled.Given as goal

abbrev pub invariant-loop-i : goal.invariant-loop-i
invariant-loop-i l = l.out ≡ zeros_to 64 (spell l.size (take l.i l.fn.words))
