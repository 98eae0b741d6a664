-- Laws of specs/Runs.antt. Assumes nothing.
pub mod Laws
