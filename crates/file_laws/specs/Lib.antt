-- The load file, form 1: reading and writing undo each other.
pub mod Parts
pub mod Fields
pub mod Sections
pub mod Numbers
pub mod ReadWrite
pub mod Layout
pub mod Typed
pub mod Tidy
pub mod WriteRead
pub mod RoundTrip
pub mod Planned
pub mod Counts
pub mod Before
