-- Places in a sample's bytes.
use Rattle.std.specs.Prelude.{◌≡◌, ℕ, zero, suc, ◌+◌}
use Rattle.std.proofs.Common.{arith}
use Rattle.replay_sample.specs.declared.Reader.{Reader}
use Rattle.replay_sample.specs.Sample.{beyond}

-- the place n bytes further on
abbrev pub later : Reader → ℕ → Reader
later r n = record r { at = beyond r.at n }

-- the place n fields of w bytes further on
unfoldable pub further : ℕ → ℕ → ℕ → ℕ
further at w zero = at
further at w (suc n) = beyond (further at w n) w

-- two steps on are one longer step
pub beyond_twice : (at m n : ℕ) → beyond (beyond at m) n ≡ beyond at (m + n)
beyond_twice at m n = omega arith
