-- The findings' words, the findings over a view, columns that give one, and views that agree.
pub mod Finding
pub mod View
pub mod Held
pub mod Blocks
pub mod Alike
