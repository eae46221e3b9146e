-- That the order of a sheet's lines does not matter to its findings: the statement in Demand, and what leads to the theorems in proofs/OrderOfLines.antt.
-- Nor do cells past those that count: Alike.
pub mod Demand
pub mod ByLine
pub mod Bools
pub mod Picked
pub mod Below
pub mod Permuted
pub mod Reordered
pub mod Parts
pub mod Kinds
pub mod Own
pub mod Boxes
pub mod Pairs
pub mod Repeats
pub mod Unplaced
pub mod Mass
pub mod OrderOfLines
pub mod Alike
pub mod Examples
