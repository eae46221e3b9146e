-- What rests on the definition of an answer for want of room, which a wrong program of must-fail/ changes.
pub mod Room
