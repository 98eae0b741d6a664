pub mod Hashes
pub mod Refusals
pub mod Answers
pub mod Cases
pub mod Checks
pub mod Calls
pub mod Pieces
