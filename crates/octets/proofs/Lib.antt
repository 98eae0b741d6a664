pub mod Bits
pub mod Tells
pub mod Proved
