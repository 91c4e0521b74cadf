pub mod Lots
pub mod Spare
