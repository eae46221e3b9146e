-- The extreme-point placer's tests on floats: the room of a container and the walls of a box, the order of points, and where a new point may lie.
pub mod Fit
pub mod Sooner
pub mod Ends
