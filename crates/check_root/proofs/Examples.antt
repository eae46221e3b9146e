-- Worked examples, by computation.
use mathlib.Core.Path.{◌≡◌, refl}
use mathlib.Core.Bool.{true}
use lib.Ieee.{nan, inf, binary64, of_bits}
use Rattle.check_root.specs.Sqrt.{sqrt_of}

-- √2, √25, √0.5
two : sqrt_of binary64 (of_bits binary64 0x4000_0000_0000_0000) ≡ of_bits binary64 0x3ff6_a09e_667f_3bcd
unfolding sqrt_of of_bits
two = refl

twenty_five : sqrt_of binary64 (of_bits binary64 0x4039_0000_0000_0000) ≡ of_bits binary64 0x4014_0000_0000_0000
unfolding sqrt_of of_bits
twenty_five = refl

half : sqrt_of binary64 (of_bits binary64 0x3fe0_0000_0000_0000) ≡ of_bits binary64 0x3fe6_a09e_667f_3bcd
unfolding sqrt_of of_bits
half = refl

-- the smallest, 2 ^ -1074, and the largest finite number
smallest : sqrt_of binary64 (of_bits binary64 1) ≡ of_bits binary64 0x1e60_0000_0000_0000
unfolding sqrt_of of_bits
smallest = refl

largest : sqrt_of binary64 (of_bits binary64 0x7fef_ffff_ffff_ffff) ≡ of_bits binary64 0x5fef_ffff_ffff_ffff
unfolding sqrt_of of_bits
largest = refl

-- -0, -1 and -∞
negative_zero : sqrt_of binary64 (of_bits binary64 0x8000_0000_0000_0000) ≡ of_bits binary64 0x8000_0000_0000_0000
unfolding sqrt_of of_bits
negative_zero = refl

minus_one : sqrt_of binary64 (of_bits binary64 0xbff0_0000_0000_0000) ≡ nan
unfolding sqrt_of of_bits
minus_one = refl

minus_infinity : sqrt_of binary64 (inf true) ≡ nan
unfolding sqrt_of
minus_infinity = refl

-- three of the smallest
three : sqrt_of binary64 (of_bits binary64 3) ≡ of_bits binary64 0x1e6b_b67a_e858_4caa
unfolding sqrt_of of_bits
three = refl
