-- The layer placer's plan of an order and of given items, and the lines that it is laid in.
pub mod Offers
pub mod Run
pub mod Fills
pub mod Shown
pub mod Laid
pub mod Items
