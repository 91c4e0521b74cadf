pub mod Finding
pub mod Keeping
pub mod Ordering
pub mod Pairs
pub mod Settling
pub mod Staying
