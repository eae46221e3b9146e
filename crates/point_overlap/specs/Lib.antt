-- Two placed boxes that overlap.
pub mod Overlap
