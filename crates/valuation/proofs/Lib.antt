pub mod Inverse
pub mod Laws
