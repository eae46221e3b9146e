-- What the contracts of `replay_sample` cite.
pub mod Sample
pub mod Places
