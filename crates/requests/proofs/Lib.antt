pub mod Legal
mod Capacity
mod Codes
mod Steps
