pub mod Closed
pub mod Each
pub mod Freed
pub mod NextDay
pub mod Paper
pub mod Profiles
pub mod Remade
pub mod Rows
