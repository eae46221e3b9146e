-- The packing fitness.
pub mod Fitness
