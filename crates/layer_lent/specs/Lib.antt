-- The layer cursor lent mutably: the answer to one box, and that it goes where the fill's own cursor goes.
pub mod Asked
pub mod Steps
pub mod Follows
