-- `replay_vectors::buffer` meets its contract: so many zeros are so long, by a law for any number of them, which does not count them out.
use Rattle.std.proofs.Common.{◌≡◌, ℕ, sym, length, replicate}
use Rattle.std.proofs.lemmas.List.{length-replicate}
use Rattle.replay_vectors.proofs.buffer.Goals as goal

long : (n : ℕ) → n ≡ length {A = ℕ} (replicate n 0)
long n = sym (length-replicate {A = ℕ} n 0)

pub returns-clause-value : goal.returns-clause-value
returns-clause-value c = long 524288
