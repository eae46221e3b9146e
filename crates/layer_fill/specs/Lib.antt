-- The layer fill with its placements.
pub mod Fill
