-- The domain in four files: counts, ranges, refusals, and laws on them.
pub mod Bounds
pub mod Ranges
pub mod Refusals
pub mod Refusal
pub mod Laws
pub mod Numbers
