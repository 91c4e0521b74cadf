pub mod Cuts
pub mod Program
pub mod Serving
