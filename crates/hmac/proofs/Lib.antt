pub mod Starts
pub mod Typed
pub mod Messages
pub mod Tagged
