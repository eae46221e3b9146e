-- The answer of a plan call, the bytes and figures that it leaves, and that they are the planned sheet's.
pub mod Plan
pub mod Room
pub mod Laid
