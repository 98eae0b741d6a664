pub mod Found
pub mod Judging
pub mod Tally
