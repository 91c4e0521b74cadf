pub mod Accepted
pub mod Entry
pub mod Outcome
