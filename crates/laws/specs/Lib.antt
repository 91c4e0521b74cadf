pub mod Bits
pub mod Filled
pub mod Lists
pub mod Numbers
pub mod Search
pub mod Sum
pub mod Found
