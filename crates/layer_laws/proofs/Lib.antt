-- What rests on the definition of what the layer placer chooses, which a wrong program of must-fail/ changes.
pub mod Best
