pub mod Codes
pub mod Returns
