-- `hkdf::expanding::fill`. The loop's invariant: the blocks T(1) to T(i) stand over the output. Assumes nothing.
use mathlib.Core.Path.{◌≡◌}
use Rattle.octets.specs.Copy.{over}
use Rattle.algorithm.specs.Hashes.{hash_of}
use Rattle.hkdf.specs.Hkdf.{stretches}
use Rattle.hkdf.proofs.expanding.fill.Given as goal

abbrev pub invariant-loop-i : goal.invariant-loop-i
invariant-loop-i l = l.out ≡ over (stretches (hash_of l.hash_number) l.prk l.info l.i) l.initial.out
