pub mod Fop
pub mod Images
pub mod Places
pub mod Ranges
pub mod Readings
pub mod RoundTrip
pub mod Returns
