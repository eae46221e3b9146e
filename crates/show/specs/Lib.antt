-- How the programs print a float, and what digits mean.
pub mod Digits
pub mod Hex
