pub mod Eligible
