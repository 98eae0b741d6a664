-- Laws of specs/Inside.antt. Assumes nothing.
pub mod Entering
pub mod Laws
