-- The findings' words, words written into lent cells, the box of a line.
pub mod Words
pub mod Wrote
pub mod Writes
pub mod Boxes
