-- What follows from a law of specs/ that a wrong program of must-fail/ turns round.
pub mod WriteRead
pub mod RoundTrip
pub mod Before
