pub mod Pass
pub mod Recalled
