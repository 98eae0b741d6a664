-- Proved: the sizes of words of 32 bits and of 64. Assumes nothing.
use Rattle.std.proofs.Common.{refl, lit<, lit≤}
use Rattle.hash.specs.Description.{narrow, wide}
use Rattle.hash.specs.Sizes.{Sizes}

pub narrow_sizes : Sizes narrow 4 64
unfolding narrow
narrow_sizes = record { bytes_is = refl; some = lit< tt; few = lit≤ tt; rounds_is = refl; more = lit≤ tt; most = lit≤ tt; eights = refl }

pub wide_sizes : Sizes wide 8 80
unfolding wide
wide_sizes = record { bytes_is = refl; some = lit< tt; few = lit≤ tt; rounds_is = refl; more = lit≤ tt; most = lit≤ tt; eights = refl }
