-- The extreme-point placer's state: its stores, a fresh one, the bounds of its counts, the placed boxes and their totals.
pub mod All
pub mod Stores
pub mod Fresh
pub mod Counts
pub mod Boxes
