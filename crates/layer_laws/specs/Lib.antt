-- What holds of a fill by layers beyond its contract.
pub mod Begin
pub mod Least
pub mod Best
pub mod Made
pub mod Reproduce
pub mod Seeded
pub mod Worked
