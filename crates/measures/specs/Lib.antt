-- Measures: axis orders, lengths turned by them, volume, and what a kind or a container is refused for.
pub mod Orders
pub mod Turned
pub mod Among
pub mod Volume
pub mod Faults
pub mod Asked
