-- The orientations that a sheet's lines give to an instance list.
pub mod Seeds
