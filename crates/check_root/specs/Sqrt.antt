-- IEEE 754's squareRoot, nearest, ties to even. It computes, so a worked example is an equation that the check works out.
-- RULES: Square root. The correctly rounded root, said over whole numbers by their squares, which are in specs/Squares.antt.
use Rattle.std.specs.Prelude.{ℕ, zero, suc, ◌+◌, ◌*◌, ◌/◌, ◌%◌, ◌^◌, true, false, cond, Float}
use Rattle.std.specs.Float.{nan, inf, fin, Format}
use Rattle.std.specs.Float.Ieee.{low, up, down, round}
use Rattle.check_root.specs.Root.{root, rest}

-- √n units of the format's smallest value, rounded. 2 * root n + rest n is below, at or above an even number exactly where 2√n is.
-- For a positive value of the format √n has many more digits than the format keeps, so the values and the middles between them are whole numbers
-- of units there: the fraction rounds as √n itself would.
unfoldable pub rounded : Format → ℕ → Float
unfolding round root rest
rounded f n = round f false (2 * root n + rest n) (2 * 2 ^ low f)

-- A finite x that the format holds is a whole number of units of 4 ^ -low, and √x is the root of that number in units of 2 ^ -low.
-- A zero keeps its sign; what is below zero has no root.
unfoldable pub sqrt_of : Format → Float → Float
unfolding rounded
sqrt_of f nan = nan
sqrt_of f (inf s) = cond s nan (inf false)
sqrt_of f (fin s zero e) = fin s zero e
sqrt_of f (fin true (suc m) e) = nan
sqrt_of f (fin false (suc m) e) = rounded f (suc m * up e * 4 ^ low f / down e)

-- the number with the exponent's field x and the digits t, in units of 2 ^ -1074
abbrev pub mant : ℕ → ℕ → ℕ
mant zero t = t
mant (suc x) t = (2 ^ 52 + t) * 2 ^ x

-- what the bit pattern b of a positive finite f64 stands for, in those units
unfoldable pub mag : ℕ → ℕ
mag b = mant (b / 2 ^ 52) (b % 2 ^ 52)
