pub mod Demand
pub mod Starred
pub mod Shortcut
pub mod Retry
pub mod Limit
