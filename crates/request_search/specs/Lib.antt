pub mod Ranges
pub mod Rows
