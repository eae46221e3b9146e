-- One box over the stores of a run: whether it is too heavy, the point and the orientation found, and the stores after it.
pub mod Pick
pub mod Step
pub mod Wide
