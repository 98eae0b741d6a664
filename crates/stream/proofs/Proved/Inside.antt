-- Laws of specs/Inside.antt. Assumes nothing.
pub mod Laws
