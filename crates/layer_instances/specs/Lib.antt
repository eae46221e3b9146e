-- The boxes of an order in a load file, and its instance list.
pub mod Records
pub mod Instances
