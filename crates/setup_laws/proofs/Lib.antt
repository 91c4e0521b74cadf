pub mod More
pub mod SetUp
