-- What the proofs of this crate share.
pub mod Found
pub mod Pairs
pub mod Counted
pub mod Spans
