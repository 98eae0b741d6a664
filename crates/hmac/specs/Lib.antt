pub mod Form
pub mod Hmac
pub mod Keyed
pub mod Calls
pub mod Inside
pub mod Pieces
