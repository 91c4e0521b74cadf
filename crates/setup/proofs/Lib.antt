mod Ranges
mod Zeros
