-- A fill without its placements, the mass rule, the best orientation.
pub mod Stand
pub mod Best
pub mod Again
