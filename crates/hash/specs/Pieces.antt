-- Believed: a run of pieces of a message: the call that is given each of them, as algorithm's runs take it. The laws are in
-- proofs/Proved/Pieces/Laws.antt. Assumes nothing.
use Rattle.std.specs.Prelude.{ℕ, List}
use Rattle.algorithm.specs.Pieces.{Work}
use Rattle.hash.specs.State.{Held, after_of}
use Rattle.hash.specs.Calls.{update_of}
use Rattle.hash.specs.declared.state.State.{State}

-- what comes of a piece: the number, and the state
abbrev pub given : State → List ℕ → ℕ × State
given s p = ((update_of s p).number, (update_of s p).state)

-- work in pieces, as algorithm's laws of a run take it
abbrev pub work : Work State
work = record { update = given; after = after_of; count = λ s. s.count; Held = Held }
