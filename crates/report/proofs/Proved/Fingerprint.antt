-- Laws of specs/Fingerprint.antt. Assumes nothing.
pub mod Laws
