-- What the proofs of the crate show_finding share.
pub mod Texts
