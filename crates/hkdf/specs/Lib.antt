pub mod Hkdf
pub mod Calls
pub mod Inside
