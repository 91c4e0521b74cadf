pub mod Counts
pub mod Passing
pub mod Whole
