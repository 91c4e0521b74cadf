pub mod Profiles
pub mod Stages
pub mod Returns
