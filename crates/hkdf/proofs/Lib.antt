pub mod Named
pub mod Extracts
pub mod Stretches
pub mod Filling
