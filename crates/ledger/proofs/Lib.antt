pub mod Demand3
pub mod LeavesSound
pub mod Openings
pub mod Paper
pub mod Steps
pub mod Told
