-- The theorems on the order of a sheet's lines, and those that lead to them and turn on which findings are a line's own and which a pair's.
pub mod Own
pub mod Pairs
pub mod OrderOfLines
