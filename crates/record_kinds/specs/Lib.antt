pub mod Kinds
pub mod Numbered
pub mod Typed
