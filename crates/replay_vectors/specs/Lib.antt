-- What the contracts of `replay_vectors` cite.
pub mod Sample
pub mod Tags
