pub mod Fresh
pub mod Holidays
pub mod EasterTable
pub mod OpenDays
pub mod Years
