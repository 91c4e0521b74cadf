pub mod Empty
pub mod Named
pub mod Returns
