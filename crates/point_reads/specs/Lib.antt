-- What the calls that only read a state answer.
pub mod Reads
