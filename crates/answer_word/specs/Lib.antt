-- An answer of the boundary.
pub mod Answer
