-- What holds of a finished plan beyond its contract.
pub mod Top
pub mod Spots
pub mod Layers
pub mod Points
pub mod Accepted
pub mod Bins
pub mod Laid
pub mod Fits
pub mod Listed
pub mod NoneLost
