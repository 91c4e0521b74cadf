pub mod LeastBy
pub mod Nowhere
