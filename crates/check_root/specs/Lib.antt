-- The square root: of whole numbers, of floats, what it is by squares, and that it is that; and what a hint is.
pub mod Root
pub mod Sqrt
pub mod Squares
pub mod Correct
pub mod Powers
pub mod Roots
pub mod Pattern
pub mod Round
pub mod Rounded
pub mod Cases
pub mod Hint
