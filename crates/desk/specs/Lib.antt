-- The program's definitions.
pub mod Streams
