pub mod Fields
pub mod Numbered
