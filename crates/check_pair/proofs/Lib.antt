-- What the proofs of this crate share, and the laws of the verdict.
pub mod Shortcut
pub mod Verdicts
pub mod FarApart
pub mod Examples
pub mod Told
pub mod Spanned
