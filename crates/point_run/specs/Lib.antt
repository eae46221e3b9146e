-- The extreme-point placer's run: the order of the boxes, and the plan.
pub mod Order
pub mod Boxes
pub mod Kinds
pub mod Runs
pub mod Lay
pub mod LayPlan
