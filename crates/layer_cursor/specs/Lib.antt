-- The layer cursor, and the spot of one box.
pub mod Spot
