-- The boxes of an order in listing order.
pub mod Turns
pub mod Listing
pub mod Orders
pub mod Files
