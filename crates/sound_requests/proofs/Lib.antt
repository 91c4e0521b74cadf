mod Blocks
mod Later
