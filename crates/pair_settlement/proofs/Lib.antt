pub mod Amounts
pub mod Pairs
