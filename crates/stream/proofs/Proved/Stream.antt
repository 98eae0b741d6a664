-- Laws of specs/Stream.antt. Assumes nothing.
pub mod Laws
