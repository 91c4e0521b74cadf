pub mod Keys
mod Hints
