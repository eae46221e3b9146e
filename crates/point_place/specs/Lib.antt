-- The place call.
pub mod Place
