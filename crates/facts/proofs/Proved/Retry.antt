-- Laws of specs/Retry.antt. Assumes nothing.
pub mod Laws
