-- The whole number that a length is. RULES: Fill per thousand
use Rattle.std.specs.Prelude.{ℕ, cond, ◌&&◌, Float}
use Rattle.std.specs.Float.{binary64}
use Rattle.std.specs.Float.Ieee.{of_bits, le, eq, to_unsigned}
use Rattle.floats.specs.Whole.{whole}

-- the longest side that counts
abbrev pub most_side : ℕ
most_side = 10000

-- 1 and 10,000
abbrev pub shortest : Float
shortest = of_bits binary64 0x3FF0000000000000

abbrev pub longest : Float
longest = of_bits binary64 0x40C3880000000000

-- a number with its fraction dropped
abbrev pub cut : Float → ℕ
cut v = to_unsigned 64 v

-- the whole number that a float is, or 0 where it has a fraction
unfoldable pub whole_or_none : Float → ℕ
whole_or_none v = cond (eq (whole (cut v)) v) (cut v) 0

-- the whole number that a length is, from 1 to 10,000, or 0 where it is none of them: SideLaws.antt, `side_is` and `side_of_lem`
unfoldable pub side_of : Float → ℕ
side_of v = cond (le shortest v && le v longest) (whole_or_none v) 0
