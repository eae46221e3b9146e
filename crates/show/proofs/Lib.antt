-- What the proofs of the crate show share.
pub mod Places
