-- The measured examples.
pub mod Parts
pub mod Table
