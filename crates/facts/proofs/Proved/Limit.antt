-- Laws of specs/Limit.antt. Assumes nothing.
pub mod Laws
