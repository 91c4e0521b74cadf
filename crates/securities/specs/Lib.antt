pub mod Bounds
pub mod Position
pub mod Security
