pub mod ByKind
pub mod Outcomes
