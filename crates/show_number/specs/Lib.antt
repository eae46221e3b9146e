-- How the planner reads a number.
pub mod Number
