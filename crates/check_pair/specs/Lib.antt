-- The verdict on one pair, the tolerance, and the laws of the verdict that other crates cite.
pub mod Tolerance
pub mod Pair
pub mod Shortcut
pub mod Solid
pub mod Symmetry
pub mod Close
pub mod Span
