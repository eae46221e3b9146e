-- What the crates above say of binary64, and the laws of it that they share.
pub mod Ops
pub mod Compare
pub mod Order
pub mod Unique
pub mod Sums
pub mod Larger
pub mod Weak
pub mod Numbers
pub mod Whole
pub mod Differences
