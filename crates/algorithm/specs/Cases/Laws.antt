-- Proved: every test came out one way or the other. Assumes nothing.
use Rattle.std.specs.Prelude.{refl, Bool, true, false}
use Rattle.algorithm.specs.Cases.{Test}
use Rattle.algorithm.specs.Cases.Test.{yes, no}

pub test : (b : Bool) → Test b
test true = yes refl
test false = no refl
