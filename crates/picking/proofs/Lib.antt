pub mod Frees
pub mod Picks
