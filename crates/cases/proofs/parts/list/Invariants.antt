-- The reader gave the bytes of the numbers so far. Assumes nothing.
use Rattle.std.proofs.Common.{take}
use Rattle.std.specs.Prelude.{flat_map}
use Rattle.std.specs.Io.KnownBytes.{Consumes}
use Rattle.cases.proofs.parts.list.Given as goal

abbrev pub invariant-loop-place : goal.invariant-loop-place
invariant-loop-place g l =
    Consumes (g.R.Read.remaining l.initial.from) (g.R.Read.remaining l.from) (flat_map g.T.Number.spelled (take l.place-index l.place-items))
