mod Rows
mod Exposures
