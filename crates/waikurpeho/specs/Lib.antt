-- The answers of the boundary, in the terms of the calls behind it.
pub mod Check
pub mod Few
pub mod Fill
