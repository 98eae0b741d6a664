-- Believed: a run of pieces under a key: the call that is given each of them, as algorithm's runs take it, and the keyed state that updates
-- lead to one after the other. The laws are in Pieces/Laws.antt. Assumes nothing.
pub mod Laws
pub mod Lengths
use Rattle.std.specs.Prelude.{◌≡◌, List, ◌++◌, ℕ}
use Rattle.algorithm.specs.Pieces.{Work}
use Rattle.hmac.specs.Keyed.{HeldKeyed, after_keyed}
use Rattle.hmac.specs.Calls.{Fed, update_of}
use Rattle.hmac.specs.declared.keyed.Keyed.{Keyed}

-- what comes of a piece: the number, and the keyed state
abbrev pub given : Keyed → List ℕ → ℕ × Keyed
given k p = ((update_of k p).number, (update_of k p).keyed)

-- updates, each given the keyed state that the one before left, lead from one keyed state to another; the bytes are those of
-- all the pieces, end to end
pub data Leads : Keyed → List ℕ → Keyed → Type 0 where
  one : {k : Keyed} {p : List ℕ} {f : Fed} → f ≡ update_of k p → Leads k p f.keyed
  more : {k last : Keyed} (p : List ℕ) {m : List ℕ} {f : Fed} → f ≡ update_of k p → Leads f.keyed m last → Leads k (p ++ m) last

-- work in pieces, as algorithm's laws of a run take it
abbrev pub work : Work Keyed
work = record { update = given; after = after_keyed; count = λ k. k.count; Held = HeldKeyed }
