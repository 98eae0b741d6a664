-- Laws of specs/Starred.antt. Assumes nothing.
pub mod Laws
