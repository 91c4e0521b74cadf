pub mod OnEach
pub mod Rows
pub mod Returns
