-- `le::float` meets its contract: the two halves there.
use mathlib.Core.Path.{ap}
use Prim.Native.Nat.{ℕ}
use lib.Ieee.{binary64, of_bits}
use Rattle.file_bytes.specs.Words.{u64_halves}
use Rattle.file_read.proofs.le.float.Goals as goal

pub returns : goal.returns
returns c =
    let a = c.args in
    rw (c.f64_of.ensures, c.word-high.ensures, c.word-low.ensures) (ap (λ (n : ℕ). of_bits binary64 n) (u64_halves a.s.now a.at))
