-- What `hint` works out of a float, operation by operation: a pattern near that of its root. Nothing is claimed of it and nothing leans on it, as
-- `sqrt_by` gives the root whatever number it is handed; it is said here so that the call has one result.
use Rattle.std.specs.Prelude.{ℕ, ◌-◌, ◌/◌, ◌%◌, ◌^◌, Float}
use Rattle.std.specs.Float.{binary64}
use Rattle.std.specs.Float.Ieee.{to_bits, of_bits}
use Rattle.floats.specs.Ops.{◌⊕◌, ◌⊖◌, ◌⊗◌}

abbrev half : Float
half = of_bits binary64 0x3FE0000000000000

abbrev one_and_half : Float
one_and_half = of_bits binary64 0x3FF8000000000000

-- near 1 / root, by halving the exponent of the number with this pattern
abbrev pub start : ℕ → Float
start b = of_bits binary64 (6910469410427058089 - b % 2 ^ 63 / 2)

-- g, near the root, and h, near half of 1 / root, after one step more
record Near : Type 0 where
  g : Float
  h : Float

abbrev nearer : Near → Near
nearer n = let f = one_and_half ⊖ n.g ⊗ n.h in record { g = n.g ⊗ f; h = n.h ⊗ f }

-- from a number y near 1 / root, in three steps; then what is left of v is divided out
abbrev pub hint_from : Float → Float → ℕ
hint_from v y =
    let n = nearer (nearer (nearer (record { g = v ⊗ y; h = half ⊗ y }))) in
    to_bits binary64 (n.g ⊕ n.h ⊗ (v ⊖ n.g ⊗ n.g))

unfoldable pub hint_of : Float → ℕ
hint_of v = hint_from v (start (to_bits binary64 v))
