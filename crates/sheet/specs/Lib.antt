-- The sheet's definitions, and what an accepted one is known to be.
pub mod Sheets
pub mod Accepted
pub mod Ids
pub mod Firsts
pub mod Alike
