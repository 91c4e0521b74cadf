pub mod Basket
pub mod Fresh
pub mod Report
pub mod Outcome
