-- Tests, what is gathered below a number, tables, and rows in lent memory: each notion once, for every crate above.
pub mod Bools
pub mod Below
pub mod Table
pub mod Rows
