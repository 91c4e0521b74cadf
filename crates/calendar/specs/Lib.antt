pub mod Answers
pub mod Easter
pub mod Fresh
pub mod Gregorian
pub mod Target
pub mod YearDay
pub mod Outcome
