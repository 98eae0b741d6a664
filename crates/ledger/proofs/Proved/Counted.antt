-- Laws of specs/Counted.antt. Assumes nothing.
pub mod Laws
