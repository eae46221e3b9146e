-- `sqrt_of` keeps the order of the numbers above zero, and has a clear sign.
use Prim.Native.Nat.{ℕ, zero, suc, ◌+◌, ◌*◌, ◌/◌, ◌^◌, ◌≤◌, ◌<◌}
use native.Mathlib.Nat.{le_trans, le_of_eq, mul_right_comm, mul-le-mul_right, mul-pos, zero-lt-suc}
use mathlib.Core.Path.{refl}
use mathlib.Core.Bool.{true, false, true≢false}
use lib.Dec.{T, lt→ltb}
use lib.Pow.{pow_pos}
use lib.Ieee.{Float, nan, inf, fin, Format, low, up, down, le}
use lib.Ieee.Fits.{down_pos}
use lib.Ieee.Nearest.{div_mono}
use lib.Ieee.Order.{round_mono}
use lib.Ieee.Positive.{positive, le→cross, above_of_le}
use Rattle.floats.specs.Order.{signed, round_signed, le_inf}
use Rattle.check_root.specs.Root.{root, rest}
use Rattle.check_root.specs.Sqrt.{rounded, sqrt_of}
use Rattle.check_root.specs.Roots.{mono}

rounded_mono : (f : Format) (n m : ℕ) → n ≤ m → T (le (rounded f n) (rounded f m))
unfolding rounded
rounded_mono f n m h =
    let U : 0 < 2 * 2 ^ low f = mul-pos (zero-lt-suc 1) (pow_pos (low f)) in
    round_mono f (2 * root n + rest n) (2 * 2 ^ low f) (2 * root m + rest m) (2 * 2 ^ low f) U U (mul-le-mul_right (2 * 2 ^ low f) (mono n m h))

-- a root has no sign, where the number has none
pub sqrt_signed : (f : Format) (v : Float) → signed false v → signed false (sqrt_of f v)
unfolding sqrt_of rounded
sqrt_signed f nan p = absurd p
sqrt_signed f (inf true) p = absurd (true≢false p)
sqrt_signed f (inf false) p = refl
sqrt_signed f (fin true m e) p = absurd (true≢false p)
sqrt_signed f (fin false zero e) p = refl
sqrt_signed f (fin false (suc m) e) p = let n = suc m * up e * 4 ^ low f / down e in round_signed f false (2 * root n + rest n) (2 * 2 ^ low f)

-- and it is a number above zero only of one
pub root_of_positive : (f : Format) (v : Float) → T (positive (sqrt_of f v)) → T (positive v)
unfolding sqrt_of
root_of_positive f nan p = p
root_of_positive f (inf true) p = p
root_of_positive f (inf false) p = p
root_of_positive f (fin true zero e) p = p
root_of_positive f (fin true (suc m) e) p = p
root_of_positive f (fin false zero e) p = p
root_of_positive f (fin false (suc m) e) p = lt→ltb 0 (suc m) (zero-lt-suc m)

-- the order of a number above zero and what is at least as large, infinity too
pub sqrt_mono : (f : Format) (v w : Float) → T (positive v) → T (le v w) → T (le (sqrt_of f v) (sqrt_of f w))
sqrt_mono f (fin false (suc m) e) nan p h = absurd (above_of_le (fin false (suc m) e) nan p h)
sqrt_mono f (fin false (suc m) e) (inf true) p h = absurd (above_of_le (fin false (suc m) e) (inf true) p h)
sqrt_mono f (fin false (suc m) e) (inf false) p h = unfold sqrt_of in le_inf (sqrt_of f (fin false (suc m) e)) (sqrt_signed f (fin false (suc m) e) refl)
sqrt_mono f (fin false (suc m) e) (fin true n d) p h = absurd (above_of_le (fin false (suc m) e) (fin true n d) p h)
sqrt_mono f (fin false (suc m) e) (fin false zero d) p h = absurd (above_of_le (fin false (suc m) e) (fin false zero d) p h)
sqrt_mono f (fin false (suc m) e) (fin false (suc n) d) p h =
    unfold sqrt_of in
    let w = 4 ^ low f in
    rounded_mono f (suc m * up e * w / down e) (suc n * up d * w / down d)
    (div_mono (suc m * up e * w) (down e) (suc n * up d * w) (down d) (down_pos e) (down_pos d)
    (le_trans (le_of_eq (mul_right_comm (suc m * up e) w (down d)))
    (le_trans (mul-le-mul_right w (le→cross (fin false (suc m) e) (fin false (suc n) d) p (lt→ltb 0 (suc n) (zero-lt-suc n)) h))
    (le_of_eq (mul_right_comm (suc n * up d) (down e) w)))))
sqrt_mono f nan w p h = absurd p
sqrt_mono f (inf s) w p h = absurd p
sqrt_mono f (fin true m e) w p h = absurd p
sqrt_mono f (fin false zero e) w p h = absurd p
