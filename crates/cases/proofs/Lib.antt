pub mod Spelled
pub mod Proved
