-- Laws of what the public functions promise. Assumes nothing.
pub mod Unique
