-- The survey of a list of kinds.
pub mod Survey
