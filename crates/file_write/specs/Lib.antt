-- How a sheet is written, and bytes stored part by part.
pub mod Writing
pub mod Stores
pub mod Planned
pub mod PlanStores
