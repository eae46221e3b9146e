-- What holds of the extreme-point placer and its runs beyond their contracts.
pub mod Numbers
pub mod Least
pub mod Clean
pub mod Reach
pub mod Reached
pub mod Multiset
pub mod Falling
pub mod Volumes
pub mod Told
