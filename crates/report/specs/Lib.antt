pub mod Layout
pub mod Reading
pub mod Fingerprint
pub mod Keys
pub mod Writing
pub mod Lent
pub mod Calls
pub mod Inside
