-- Boxes placed in a given order: the definition, that a run's step is its turn, and what it keeps.
pub mod Stow
pub mod Agrees
pub mod Turns
pub mod Keeps
