-- Little-endian numbers of any width in a list of bytes. RULES: Load file
use Rattle.std.specs.Prelude.{ℕ, zero, suc, ◌+◌, ◌*◌, ◌/◌, ◌%◌, List, [], ◌∷◌, get_or, take, drop, Float}
use Rattle.std.specs.Float.{binary64}
use Rattle.std.specs.Float.Ieee.{of_bits, to_bits}

-- the number in the w bytes from `at`, the lowest byte first; a byte past the end counts as 0
unfoldable pub number_at : ℕ → List ℕ → ℕ → ℕ
number_at zero s at = 0
number_at (suc w) s at = get_or s at 0 + number_at w s (suc at) * 256

-- the w bytes of a number, the lowest first
unfoldable pub bytes_of : ℕ → ℕ → List ℕ
bytes_of zero v = []
bytes_of (suc w) v = v % 256 ∷ bytes_of w (v / 256)

-- the widths that fields have: one byte, a u16, a u32, an f64
abbrev pub byte : ℕ
byte = 1

abbrev pub half : ℕ
half = 2

abbrev pub word : ℕ
word = 4

abbrev pub float : ℕ
float = 8

-- ---- read

abbrev pub byte_at : List ℕ → ℕ → ℕ
byte_at s at = number_at byte s at

abbrev pub u16_at : List ℕ → ℕ → ℕ
u16_at s at = number_at half s at

abbrev pub u32_at : List ℕ → ℕ → ℕ
u32_at s at = number_at word s at

abbrev pub u64_at : List ℕ → ℕ → ℕ
u64_at s at = number_at float s at

-- a float stands there by its bits
abbrev pub f64_at : List ℕ → ℕ → Float
f64_at s at = of_bits binary64 (number_at float s at)

-- ---- written

abbrev pub byte_out : ℕ → List ℕ
byte_out v = bytes_of byte v

abbrev pub u16_out : ℕ → List ℕ
u16_out v = bytes_of half v

abbrev pub u32_out : ℕ → List ℕ
u32_out v = bytes_of word v

abbrev pub u64_out : ℕ → List ℕ
u64_out v = bytes_of float v

abbrev pub f64_out : Float → List ℕ
f64_out v = bytes_of float (to_bits binary64 v)

-- the n bytes from `at`
abbrev pub part : List ℕ → ℕ → ℕ → List ℕ
part s at n = take n (drop at s)
