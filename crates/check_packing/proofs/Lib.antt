-- What the proofs of this crate share.
pub mod ById
pub mod Packed
pub mod Places
pub mod Read
pub mod Marks
pub mod Listed
pub mod Holds
pub mod Answers
