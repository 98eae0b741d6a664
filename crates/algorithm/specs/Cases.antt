-- Private: a test that came out one way or the other, for the proofs of this crate and of those above it that go by cases. Assumes nothing.
pub mod Laws
use Rattle.std.specs.Prelude.{◌≡◌, Bool, true, false}

pub data Test (b : Bool) : Type 0 where
  yes : b ≡ true → Test b
  no : b ≡ false → Test b
