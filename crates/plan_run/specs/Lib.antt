-- The runs into lent words: what they hand out, and that it is the plan.
pub mod Packs
pub mod Sound
