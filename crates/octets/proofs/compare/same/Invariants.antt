-- `octets::compare::same` meets its contract. The loop's invariant: the gathered bits tell whether the bytes passed are equal.
-- Assumes nothing.
use Rattle.std.proofs.Common.{length, take, eqb}
use Rattle.octets.specs.Same.{Tells}
use Rattle.octets.proofs.compare.same.Given as goal

abbrev pub invariant-loop-x : goal.invariant-loop-x
invariant-loop-x l = Tells (eqb l.bits 0) (take (length l.yielded) l.a) (take (length l.yielded) l.b)
