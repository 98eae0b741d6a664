-- Laws of specs/Calls.antt. Assumes nothing.
pub mod Computed
pub mod Laws
