-- Laws of specs/Pieces.antt. Assumes nothing.
pub mod Laws
