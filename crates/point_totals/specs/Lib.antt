-- What the totals of a state are told as.
pub mod Totals
