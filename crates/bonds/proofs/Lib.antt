pub mod Ready
pub mod Rows
pub mod Steps
