-- Laws of specs/Records.antt. Assumes nothing.
pub mod Laws
pub mod Longer
