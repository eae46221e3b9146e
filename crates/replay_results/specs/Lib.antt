-- What the contracts of `replay_results` cite.
pub mod Results
