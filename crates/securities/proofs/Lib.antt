pub mod Legal
pub mod Positions
