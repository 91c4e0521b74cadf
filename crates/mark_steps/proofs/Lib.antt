pub mod Moving
pub mod Passable
pub mod Steps
pub mod Values
pub mod Returns
