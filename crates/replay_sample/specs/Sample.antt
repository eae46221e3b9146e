-- A sample's bytes: numbers, floats and parts.
use Rattle.std.specs.Prelude.{ℕ, ◌+◌, ◌%◌, ◌^◌, Bool, ◌&&◌, List, [], ◌∷◌, take, drop, ◌==◌, to_bits, Float}
use Rattle.std.specs.Float.{binary64}
use Rattle.floats.specs.Ops.{x, y, z}
use Rattle.file_bytes.specs.Bytes.{f64_at}

-- the place n further on; no sample is so long that it wraps
abbrev pub beyond : ℕ → ℕ → ℕ
beyond at n = (at + n) % 2 ^ 64

-- the n bytes from `at`, or those of them that are there
abbrev pub part_of : List ℕ → ℕ → ℕ → List ℕ
part_of s at n = take n (drop at s)

-- the three floats from there
abbrev pub three_at : List ℕ → ℕ → List Float
three_at s at = f64_at s at ∷ f64_at s (beyond at 8) ∷ f64_at s (beyond at 16) ∷ []

-- whether the float with the eight bytes from `at` as its bits is x; every NaN is the same
unfoldable pub same_float : List ℕ → ℕ → Float → Bool
same_float s at x = to_bits binary64 (f64_at s at) == to_bits binary64 x

abbrev pub same_three : List ℕ → ℕ → List Float → Bool
same_three s at v = same_float s at (x v) && (same_float s (beyond at 8) (y v) && same_float s (beyond at 16) (z v))
