-- The ranges of lengths, measures, limits and positions, as tests on floats. A NaN is in no order with anything, so it is in no range.
use Rattle.std.specs.Prelude.{◌^◌, ◌≡◌, refl, Bool, false, ◌&&◌, ◌||◌, not, eqb, Float}
use Rattle.std.specs.Float.{binary64}
use Rattle.std.specs.Float.Ieee.{of_bits, to_bits, le, lt, neg, round}

abbrev pub least_length : Float
least_length = of_bits binary64 0x3EB0C6F7A0B5ED8D

abbrev pub most : Float
most = of_bits binary64 0x41CDCD6500000000

abbrev pub most_limit : Float
most_limit = of_bits binary64 0x426D1A94A2000000

abbrev nothing : Float
nothing = of_bits binary64 0

-- RULES: Ranges. −0 is in range as a position and nowhere else. Its bits are the sign alone.
abbrev pub negative_zero : Float → Bool
negative_zero x = eqb (to_bits binary64 x) (2 ^ 63)

-- RULES: Ranges. A length of a kind or of the container: from a millionth to a billion, both ends included.
abbrev pub is_length : Float → Bool
is_length x = le least_length x && le x most

-- RULES: Ranges. A margin, a spacing, a mass: from 0 to a billion, and not −0.
abbrev pub is_measure : Float → Bool
is_measure x = (le nothing x && le x most) && not (negative_zero x)

-- RULES: Ranges. A mass limit: above 0, up to 1,000,000,000,000; where all its bits are 0 there is none.
abbrev pub is_limit : Float → Bool
is_limit x = eqb (to_bits binary64 x) 0 || (lt nothing x && le x most_limit)

-- RULES: Ranges. One axis of a position: a billion either way at most.
abbrev pub is_position : Float → Bool
is_position x = le (neg most) x && le x most

-- RULES: Ranges. The fill that the fitness call is handed: from 0 to a billion, and not −0.
abbrev pub is_fill : Float → Bool
is_fill = is_measure

-- ---- the constants are the decimals of RULES, Ranges: each is the float nearest to it

pub least_length_is : least_length ≡ round binary64 false 1 1000000
unfolding of_bits round
least_length_is = refl

pub most_is : most ≡ round binary64 false 1000000000 1
unfolding of_bits round
most_is = refl

pub most_limit_is : most_limit ≡ round binary64 false 1000000000000 1
unfolding of_bits round
most_limit_is = refl

-- ---- the slack of the first placer and of the checker's tolerance: a billionth
abbrev pub slack : Float
slack = of_bits binary64 0x3E112E0BE826D695

pub slack_is : slack ≡ round binary64 false 1 1000000000
unfolding of_bits round
slack_is = refl
