-- The places of boxes by falling volume, and how they are put in one by one.
pub mod Order
pub mod Insert
pub mod Begin
