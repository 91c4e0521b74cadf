pub mod Keys
pub mod Next
pub mod Returns
