-- The fill per thousand: its definition, the laws on it, the columns that the call works on, and an example.
pub mod Sides
pub mod SideLaws
pub mod Fill
pub mod FillLaws
pub mod Known
pub mod FileFill
pub mod Tabled
pub mod Examples
pub mod TableRead
