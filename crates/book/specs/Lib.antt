pub mod Fits
pub mod Layout
pub mod Row
pub mod State
pub mod Tables
