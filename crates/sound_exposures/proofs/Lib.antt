pub mod Keys
pub mod Returns
