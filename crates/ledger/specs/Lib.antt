pub mod Records
pub mod Calls
pub mod Counted
pub mod Inside
pub mod Lent
