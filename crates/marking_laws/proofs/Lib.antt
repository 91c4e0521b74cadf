pub mod Counts
pub mod Marking
pub mod Moved
pub mod Passes
pub mod Ranges
pub mod Recalls
