-- The unplaced list: what it is, and laws on counting distinct instances.
pub mod Short
pub mod Left
pub mod Anew
pub mod Distinct
pub mod Marks
pub mod InFile
pub mod Same
