pub mod Back
pub mod Exposures
pub mod Marks
pub mod Returns
