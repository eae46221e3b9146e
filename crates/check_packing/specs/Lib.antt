-- The findings on a load sheet, what a call that lists them answers, and the columns that it works on.
pub mod Lines
pub mod Findings
pub mod Check
pub mod Columns
