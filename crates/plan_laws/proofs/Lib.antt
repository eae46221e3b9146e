-- That the planned sheet of an accepted order is accepted, from the top of the range on: what rests on a statement of specs/ that a wrong program
-- of must-fail/ turns round.
pub mod Top
pub mod Spots
pub mod Points
pub mod Layers
pub mod Accepted
pub mod NoneLost
