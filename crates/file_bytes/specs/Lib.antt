-- Numbers in bytes, records of such numbers by the widths of their fields, and stores into lent bytes.
pub mod Bytes
pub mod Words
pub mod Layout
pub mod Stores
