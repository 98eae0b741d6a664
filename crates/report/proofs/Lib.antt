pub mod BigEndian
pub mod Walking
pub mod Checked
pub mod Parts
pub mod Whole
pub mod Proved
