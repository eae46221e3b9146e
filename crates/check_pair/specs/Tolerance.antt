-- The checker's tolerance, for lengths and for mass. RULES: Tolerance
use Rattle.std.specs.Prelude.{cond, List, Float}
use Rattle.std.specs.Float.{binary64}
use Rattle.std.specs.Float.Ieee.{of_bits, lt, neg}
use Rattle.floats.specs.Ops.{◌⊕◌, ◌⊗◌, none, larger, x, y, z}
use Rattle.domain.specs.Ranges.{slack}

abbrev pub one : Float
one = of_bits binary64 0x3FF0000000000000

abbrev pub magnitude : Float → Float
magnitude v = cond (lt v none) (neg v) v

-- a billionth of the longest of the container's lengths (of 1, if they are shorter) and a billionth more: the larger is taken
-- from the left, then scaled, then added to
unfoldable pub tolerance_of : List Float → Float
tolerance_of size = slack ⊗ larger (larger (larger one (magnitude (x size))) (magnitude (y size))) (magnitude (z size)) ⊕ slack
