-- A finished plan: how it is made, and how it is handed out.
pub mod Plans
pub mod Hand
pub mod Planned
pub mod Laid
pub mod Refused
pub mod Lent
pub mod LaidLaws
pub mod Room
