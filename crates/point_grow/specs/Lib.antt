-- The stores after a box has been placed.
pub mod Grow
pub mod Told
