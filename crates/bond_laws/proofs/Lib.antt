pub mod Counts
pub mod Keeping
pub mod Lots
pub mod Moving
