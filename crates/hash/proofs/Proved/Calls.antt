-- Laws of specs/Calls.antt. Assumes nothing.
pub mod Laws
