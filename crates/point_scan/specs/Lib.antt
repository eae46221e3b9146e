-- The choice of a point: whether a box fits at one, the scan for the least, and the same by walls that are worked out beforehand.
pub mod Passes
pub mod Choose
pub mod Walls
