use Rattle.std.proofs.Common.{◌≤◌, length}
use Rattle.report_vectors.proofs.again.gather_labels.Given as goal

abbrev pub invariant-loop-place : goal.invariant-loop-place
invariant-loop-place l = l.size ≤ length l.space
