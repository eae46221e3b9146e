-- The square root of a rounded square is the number again: sqrt_of (g * g) is g for a normal g above zero, where the square neither overflows nor underflows.
use mathlib.Core.Path.{◌≡◌, sym, ap, ◌∙◌, subst}
use Prim.Native.Nat.{ℕ, zero, suc, ◌+◌, ◌-◌, ◌*◌, ◌/◌, ◌%◌, ◌^◌, ◌≤◌, ◌<◌, compare, Ordering}
use native.Mathlib.Nat.{le_trans, le_of_eq, le_of_lt, lt_of_lt_of_le, lt_of_le_of_lt, lt_of_not-le, not-le_of_lt, mul-le-mul_left, mul-le-mul_right}
use native.Mathlib.Nat.{mul-lt-mul_of_pos_right, mul-pos, mul_assoc, div-add-mod', mod-lt, le-div_iff_mul-le, div-lt_iff_lt-mul, lt_of_mul-lt-mul_right}
use native.Mathlib.Nat.{pow-le-pow_right, zero-lt-suc}
use native.Mathlib.Omega.{arith}
use mathlib.Core.Bool.{true, false}
use lib.Dec.{T}
use lib.Pow.{pow-add, pow_pos, pow_mono}
use lib.Ieee.{Float, nan, inf, fin, binary64, nearest, size, to_bits, fits, mul, round}
use lib.Ieee.Bits.{of_bits-to_bits}
use lib.Ieee.Digits.{size-lt, size_reaches}
use lib.Ieee.Exact.{HasValue}
use lib.Ieee.Fits.{round-fits}
use lib.Ieee.Nearest.{closest, closest_same, div_same, nearest-ge}
use lib.Ieee.Order.{drop, kept}
use lib.Ieee.Positive.{positive, mul_at, positive_of_value}
use lib.Ieee.Scale.{grid, overflow, round_val}
use Rattle.check_root.specs.Sqrt.{rounded, sqrt_of, mag, mant}
use Rattle.check_root.specs.Squares.{Near}
use Rattle.check_root.specs.Powers.{four, pow4_pos}
use Rattle.check_root.specs.Round.{Cmp, cmp}
use Rattle.check_root.specs.Rounded.{same_value, rounded_value, sqrt_keeps}
use Rattle.check_root.specs.Cases.{fin_mag, bits_value}

-- ---- a rounded fraction is at most a half away

error_at : (q r b : ℕ) (o : Ordering) → r < b → Cmp o (r * 2) b → (2 * (q * b + r) ≤ nearest q o * (2 * b) + b) × (nearest q o * (2 * b) ≤ 2 * (q * b + r) + b)
error_at q r b Ordering.lt l c = (omega arith, omega arith)
error_at q r b Ordering.gt l c = (omega arith, omega arith)
error_at q r b Ordering.eq l c = go (q % 2) (small q)
  where
    small : (q : ℕ) → q % 2 < 2
    small q = omega arith

    go : (s : ℕ) → s < 2 → (2 * (q * b + r) ≤ (q + s) * (2 * b) + b) × ((q + s) * (2 * b) ≤ 2 * (q * b + r) + b)
    go zero h = (omega arith, omega arith)
    go (suc zero) h = (omega arith, omega arith)
    go (suc (suc s)) h = absurd (omega arith)

error : (a b : ℕ) → 0 < b → (2 * a ≤ closest a b * (2 * b) + b) × (closest a b * (2 * b) ≤ 2 * a + b)
error a b B =
    subst (λ (x : ℕ). (2 * x ≤ closest a b * (2 * b) + b) × (closest a b * (2 * b) ≤ 2 * x + b)) (div-add-mod' a b)
    (error_at (a / b) (a % b) b (compare (a % b * 2) b) (mod-lt a B) (cmp (a % b * 2) b))

-- ---- a * u / (u * u) to 53 digits

exponent_lt : (i j : ℕ) → 2 ^ i < 2 ^ j → i < j
exponent_lt i j h = lt_of_not-le (λ (g : j ≤ i). not-le_of_lt h (pow_mono g))

module _ (a u : ℕ) (U : 0 < u) (normal : 2 ^ 52 * u ≤ a) where
  cut : ℕ
  cut = drop 53 (a * u) (u * u)

  quotient : a * u / (u * u) ≡ a / u
  quotient = div_same (a * u) (u * u) a u (mul-pos U U) U (omega arith)

  digits : size (a / u) ≡ 53 + cut
  unfolding cut
  digits = subst (λ (x : ℕ). size (a / u) ≡ 53 + (size x - 53)) (sym quotient)
      (enough (size (a / u)) (exponent_lt 52 (size (a / u)) (lt_of_le_of_lt ((le-div_iff_mul-le U).1 normal) (size-lt (a / u)))))
    where
      enough : (s : ℕ) → 52 < s → s ≡ 53 + (s - 53)
      enough s h = omega arith

  weight : ℕ
  weight = u * 2 ^ cut

  weight_pos : 0 < weight
  unfolding weight
  weight_pos = mul-pos U (pow_pos cut)

  weight_low : 2 ^ 52 * weight ≤ a
  unfolding weight
  weight_low =
      let l : 2 ^ (52 + cut) * u ≤ a = (le-div_iff_mul-le U).0 (size_reaches (a / u) (52 + cut) (below (size (a / u)) cut digits)) in
      let e : 2 ^ (52 + cut) ≡ 2 ^ 52 * 2 ^ cut = pow-add 2 52 cut in
      le_trans (le_of_eq (turn (2 ^ 52) u (2 ^ cut) ∙ ap (λ (x : ℕ). x * u) (sym e))) l
    where
      below : (s d : ℕ) → s ≡ 53 + d → 52 + d < s
      below s d e = omega arith

      turn : (x y z : ℕ) → x * (y * z) ≡ x * z * y
      turn x y z = omega arith

  weight_high : a < 2 ^ 53 * weight
  unfolding weight
  weight_high =
      let l : a < 2 ^ (53 + cut) * u = (div-lt_iff_lt-mul U).0 (lt_of_lt_of_le (size-lt (a / u)) (le_of_eq (ap (λ (x : ℕ). 2 ^ x) digits))) in
      let e : 2 ^ (53 + cut) ≡ 2 ^ 53 * 2 ^ cut = pow-add 2 53 cut in
      lt_of_lt_of_le l (le_of_eq (ap (λ (x : ℕ). x * u) e ∙ turn (2 ^ 53) (2 ^ cut) u))
    where
      turn : (x y z : ℕ) → x * y * z ≡ x * (z * y)
      turn x y z = omega arith

  kept_at : kept 53 (a * u) (u * u) ≡ closest a weight
  unfolding weight cut
  kept_at = closest_same (a * u) (u * u * 2 ^ cut) a (u * 2 ^ cut) (mul-pos (mul-pos U U) (pow_pos cut)) (mul-pos U (pow_pos cut)) (turn a u (2 ^ cut))
    where
      turn : (x y z : ℕ) → x * y * (y * z) ≡ x * (y * y * z)
      turn x y z = omega arith

  kept_low : 2 ^ 52 ≤ closest a weight
  kept_low = le_trans ((le-div_iff_mul-le weight_pos).1 weight_low) (nearest-ge (a / weight) (compare (a % weight * 2) weight))

-- ---- with a = (p + 1) ^ 2 * 4 ^ c it is near enough

key : (w x y n : ℕ) → 2 ^ 52 * w ≤ n → n ≤ (2 ^ 53 - 1) * x → 2 ^ 52 * y ≤ x → 0 < y → 2 * w + y < 4 * x
key w x y n a b c d = omega arith

sides : (p y w k : ℕ) → 2 ^ 52 ≤ p + 1 → p + 1 < 2 ^ 53 → 0 < y → 2 ^ 52 * w ≤ (p + 1) * (p + 1) * y
    → 2 * ((p + 1) * (p + 1) * y) ≤ k * (2 * w) + w → k * (2 * w) ≤ 2 * ((p + 1) * (p + 1) * y) + w
    → ((2 * p + 1) * (2 * p + 1) * y < 4 * (k * w)) × (4 * (k * w) < (2 * p + 3) * (2 * p + 3) * y)
sides p y w k l h Y m e f =
    let top : p + 1 ≤ 2 ^ 53 - 1 = omega arith in
    let b : (p + 1) * ((p + 1) * y) ≤ (2 ^ 53 - 1) * ((p + 1) * y) = mul-le-mul_right ((p + 1) * y) top in
    let s : (p + 1) * (p + 1) * y ≡ (p + 1) * ((p + 1) * y) = mul_assoc (p + 1) (p + 1) y in
    let g = key w ((p + 1) * y) y ((p + 1) * (p + 1) * y) m (le_trans (le_of_eq s) b) (mul-le-mul_right y l) Y in
    (left g, right g)
  where
    left : 2 * w + y < 4 * ((p + 1) * y) → (2 * p + 1) * (2 * p + 1) * y < 4 * (k * w)
    left g = omega arith

    right : 2 * w + y < 4 * ((p + 1) * y) → 4 * (k * w) < (2 * p + 3) * (2 * p + 3) * y
    right g = omega arith

-- the weight and what is kept, for a = (p + 1) ^ 2 * 4 ^ c and u = 2 ^ z
module _ (p c z : ℕ) (low : 2 ^ 52 ≤ p + 1) (high : p + 1 < 2 ^ 53) (normal : 2 ^ 52 * 2 ^ z ≤ (p + 1) * (p + 1) * 4 ^ c) where
  whole : ℕ
  whole = (p + 1) * (p + 1) * 4 ^ c

  bits : ℕ
  unfolding whole
  bits = cut whole (2 ^ z) (pow_pos z) normal

  heavy : ℕ
  unfolding whole
  heavy = weight whole (2 ^ z) (pow_pos z) normal

  heavy_is : heavy ≡ 2 ^ (z + bits)
  unfolding heavy bits weight
  heavy_is = sym (pow-add 2 z bits)

  whole_from : 2 ^ (104 + (c + c)) ≤ whole
  unfolding whole
  whole_from =
      le_trans (le_of_eq (pow-add 2 104 (c + c) ∙ ap (λ (x : ℕ). 2 ^ 104 * x) (pow-add 2 c c ∙ sym (four c))))
      (mul-le-mul_right (4 ^ c) (le_trans (mul-le-mul_left (2 ^ 52) low) (mul-le-mul_right (p + 1) low)))

  exponents : 104 + (c + c) < 53 + (z + bits)
  unfolding whole heavy
  exponents =
      exponent_lt (104 + (c + c)) (53 + (z + bits))
      (lt_of_le_of_lt whole_from (lt_of_lt_of_le (weight_high whole (2 ^ z) (pow_pos z) normal)
      (le_of_eq (ap (λ (x : ℕ). 2 ^ 53 * x) heavy_is ∙ sym (pow-add 2 53 (z + bits))))))

  kept_from : 2 ^ 104 * 4 ^ c ≤ closest whole heavy * heavy
  unfolding whole heavy
  kept_from =
      le_trans (le_of_eq (sym (pow-add 2 104 (c + c) ∙ ap (λ (x : ℕ). 2 ^ 104 * x) (pow-add 2 c c ∙ sym (four c)))))
      (le_trans (pow_mono (step (104 + (c + c)) (z + bits) exponents))
      (le_trans (le_of_eq (pow-add 2 52 (z + bits) ∙ ap (λ (x : ℕ). 2 ^ 52 * x) (sym heavy_is)))
      (mul-le-mul_right heavy (kept_low whole (2 ^ z) (pow_pos z) normal))))
    where
      step : (x y : ℕ) → x < 53 + y → x ≤ 52 + y
      step x y h = omega arith

  near_square : Near (closest whole heavy * heavy) p c
  unfolding whole heavy
  near_square =
      let e = error whole heavy (weight_pos whole (2 ^ z) (pow_pos z) normal) in
      let s = sides p (4 ^ c) heavy (closest whole heavy) low high (pow4_pos c) (weight_low whole (2 ^ z) (pow_pos z) normal) e.0 e.1 in
      record { from = kept_from; under = small (closest whole heavy * heavy) (4 ^ c) s.1; left = s.0; right = s.1 }
    where
      small : (x y : ℕ) → 4 * x < (2 * p + 3) * (2 * p + 3) * y → x < 2 ^ 106 * y
      small x y h =
          let j : 2 * p + 3 ≤ 2 ^ 54 = omega arith in
          let k : (2 * p + 3) * (2 * p + 3) ≤ 2 ^ 54 * 2 ^ 54 = le_trans (mul-le-mul_left (2 * p + 3) j) (mul-le-mul_right (2 ^ 54) j) in
          let l : (2 * p + 3) * (2 * p + 3) * y ≤ 2 ^ 54 * 2 ^ 54 * y = mul-le-mul_right y k in
          let m : 4 * x < 2 ^ 54 * 2 ^ 54 * y = lt_of_lt_of_le h l in
          quarter x y m
        where
          quarter : (x y : ℕ) → 4 * x < 2 ^ 108 * y → x < 2 ^ 106 * y
          quarter x y h = omega arith

  -- what `round` makes of whole / 4 ^ z, in units of 2 ^ -z
  grid_at : kept 53 (whole * 2 ^ z) (2 ^ z * 2 ^ z) * 2 ^ drop 53 (whole * 2 ^ z) (2 ^ z * 2 ^ z) ≡ closest whole heavy * 2 ^ bits
  unfolding whole heavy bits cut
  grid_at = ap (λ (x : ℕ). x * 2 ^ bits) (kept_at whole (2 ^ z) (pow_pos z) normal)

  grid_weight : closest whole heavy * 2 ^ bits * 2 ^ z ≡ closest whole heavy * heavy
  grid_weight = turn (closest whole heavy) (2 ^ bits) (2 ^ z) ∙ ap (λ (x : ℕ). closest whole heavy * x) (sym (pow-add 2 z bits) ∙ sym heavy_is)
    where
      turn : (x y w : ℕ) → x * y * w ≡ x * (w * y)
      turn x y w = omega arith

  grid_from : 2 ^ (52 + bits) ≤ closest whole heavy * 2 ^ bits
  unfolding whole heavy
  grid_from = le_trans (le_of_eq (pow-add 2 52 bits)) (mul-le-mul_right (2 ^ bits) (kept_low whole (2 ^ z) (pow_pos z) normal))

  c_from : 52 + z < 106 + (c + c)
  unfolding whole
  c_from =
      exponent_lt (52 + z) (106 + (c + c))
      (lt_of_le_of_lt (le_of_eq (pow-add 2 52 z))
      (lt_of_le_of_lt normal (lt_of_lt_of_le (mul-lt-mul_of_pos_right (small p high) (pow4_pos c))
      (le_of_eq (sym (pow-add 2 106 (c + c) ∙ ap (λ (x : ℕ). 2 ^ 106 * x) (pow-add 2 c c ∙ sym (four c))))))))
    where
      small : (p : ℕ) → p + 1 < 2 ^ 53 → (p + 1) * (p + 1) < 2 ^ 106
      small p h = lt_of_le_of_lt (mul-le-mul_left (p + 1) (le_of_lt h)) (mul-lt-mul_of_pos_right h (pow_pos 53))

-- ---- the theorem

pub sqrt_of_value : (y : Float) (a : ℕ) → T (positive y) → HasValue y false a (2 ^ 1074) → sqrt_of binary64 y ≡ rounded binary64 (a * 2 ^ 1074)
unfolding sqrt_of
sqrt_of_value nan a p h = absurd p
sqrt_of_value (inf s) a p h = absurd p
sqrt_of_value (fin true m e) a p h = absurd p
sqrt_of_value (fin false zero e) a p h = absurd p
sqrt_of_value (fin false (suc m) e) a p h = ap (λ (n : ℕ). rounded binary64 n) (fin_mag (suc m) e a h.1)

square_is : (k c : ℕ) → k * 2 ^ c * (k * 2 ^ c) ≡ k * k * 4 ^ c
square_is k c = let e = four c in rw e (omega arith)

lowest : (c : ℕ) → 52 + 1074 < 106 + (c + c) → 0 < c
lowest c h = omega arith

-- g is k * 2 ^ c units of 2 ^ -1074, with the 53 digits of k = p + 1: what `sqrt_of` makes of the rounded g * g
module _ (p c : ℕ) (low : 2 ^ 52 ≤ p + 1) (high : p + 1 < 2 ^ 53) (normal : 2 ^ 52 * 2 ^ 1074 ≤ (p + 1) * (p + 1) * 4 ^ c) where
  rounded_square : Float
  rounded_square = round binary64 false ((p + 1) * (p + 1) * 4 ^ c) (2 ^ 1074 * 2 ^ 1074)

  fine : c ≤ 1533 → closest ((p + 1) * (p + 1) * 4 ^ c) (heavy p c 1074 low high normal) * 2 ^ bits p c 1074 low high normal < overflow binary64
  unfolding whole
  fine l =
      let a : ℕ = (p + 1) * (p + 1) * 4 ^ c in
      let w : ℕ = heavy p c 1074 low high normal in
      let b : ℕ = bits p c 1074 low high normal in
      lt_of_mul-lt-mul_right (2 ^ 1074)
      (lt_of_le_of_lt (le_of_eq (grid_weight p c 1074 low high normal))
      (lt_of_lt_of_le (near_square p c 1074 low high normal).under (mul-le-mul_left (2 ^ 106) (pow-le-pow_right (zero-lt-suc 3) l))))

  back : c ≤ 1533 → HasValue (sqrt_of binary64 rounded_square) false ((p + 1) * 2 ^ c) (2 ^ 1074)
  unfolding rounded_square whole
  back l =
      let a : ℕ = (p + 1) * (p + 1) * 4 ^ c in
      let w : ℕ = heavy p c 1074 low high normal in
      let b : ℕ = bits p c 1074 low high normal in
      let e : grid binary64 a (2 ^ 1074 * 2 ^ 1074) ≡ closest a w * 2 ^ b = grid_at p c 1074 low high normal in
      let v = subst (λ (x : ℕ). HasValue rounded_square false x (2 ^ 1074)) e
      (round_val binary64 a (2 ^ 1074 * 2 ^ 1074) (subst (λ (x : ℕ). x < overflow binary64) (sym e) (fine l))) in
      let q : 0 < closest a w * 2 ^ b = lt_of_lt_of_le (pow_pos (52 + b)) (grid_from p c 1074 low high normal) in
      subst (λ (y : Float). HasValue y false ((p + 1) * 2 ^ c) (2 ^ 1074))
      (sym (sqrt_of_value rounded_square (closest a w * 2 ^ b) (positive_of_value rounded_square (closest a w * 2 ^ b) (2 ^ 1074) v q) v ∙ ap
      (λ (x : ℕ). rounded binary64 x) (grid_weight p c 1074 low high normal)))
      (rounded_value (closest a w * w) c p (lowest c (c_from p c 1074 low high normal)) l (less p high) (near_square p c 1074 low high normal))
    where
      less : (p : ℕ) → p + 1 < 2 ^ 53 → p < 2 ^ 53
      less p h = omega arith

sqrt_square_at : (g : Float) (p c : ℕ) → T (fits binary64 g) → HasValue g false ((p + 1) * 2 ^ c) (2 ^ 1074) → 2 ^ 52 ≤ p + 1 → p + 1 < 2 ^ 53 → 511 ≤ c
    → c ≤ 1533
    → sqrt_of binary64 (mul binary64 g g) ≡ g
unfolding rounded_square
sqrt_square_at g p c f v low high from to =
    let k : ℕ = (p + 1) * 2 ^ c in
    let normal : 2 ^ 52 * 2 ^ 1074 ≤ (p + 1) * (p + 1) * 4 ^ c = le_trans
    (mul-le-mul_left (2 ^ 104) (pow-le-pow_right {n = 4} (zero-lt-suc 3) {i = 511} {j = c} from))
    (mul-le-mul_right (4 ^ c) (le_trans (mul-le-mul_left (2 ^ 52) low) (mul-le-mul_right (p + 1) low))) in
    let P = positive_of_value g k (2 ^ 1074) v (mul-pos (lt_of_lt_of_le (pow_pos 52) low) (pow_pos c)) in
    let m : mul binary64 g g ≡ rounded_square p c low high normal =
    mul_at binary64 g g k (2 ^ 1074) k (2 ^ 1074) P P (pow_pos 1074) (pow_pos 1074) v v ∙ ap (λ (x : ℕ). round binary64 false x (2 ^ 1074 * 2 ^ 1074))
    (square_is (p + 1) c) in
    let h = back p c low high normal to in
    ap (sqrt_of binary64) m ∙ same_value (sqrt_of binary64 (rounded_square p c low high normal)) g k
    (sqrt_keeps (rounded_square p c low high normal) (round-fits binary64 false ((p + 1) * (p + 1) * 4 ^ c) (2 ^ 1074 * 2 ^ 1074))) f h v

-- ---- by the pattern: 512 * 2 ^ 52 is that of 2 ^ -511, and 1535 * 2 ^ 52 that of 2 ^ 512

by_pattern : (g : Float) → T (fits binary64 g) → to_bits binary64 g < 1535 * 2 ^ 52 → HasValue g false (mag (to_bits binary64 g)) (2 ^ 1074)
by_pattern g f h = subst (λ (v : Float). HasValue v false (mag (to_bits binary64 g)) (2 ^ 1074)) (of_bits-to_bits binary64 g f)
    (bits_value (to_bits binary64 g) (under (to_bits binary64 g) h))
  where
    under : (b : ℕ) → b < 1535 * 2 ^ 52 → b < 2047 * 2 ^ 52
    under b h = omega arith

field_from : (b : ℕ) → 512 * 2 ^ 52 ≤ b → 512 ≤ b / 2 ^ 52
field_from b l = omega arith

pub pattern_positive : (g : Float) → T (fits binary64 g) → 512 * 2 ^ 52 ≤ to_bits binary64 g → to_bits binary64 g < 1535 * 2 ^ 52 → T (positive g)
unfolding mag
pattern_positive g f l h = positive_of_value g (mag (to_bits binary64 g)) (2 ^ 1074) (by_pattern g f h)
    (some (to_bits binary64 g / 2 ^ 52) (to_bits binary64 g % 2 ^ 52) (field_from (to_bits binary64 g) l))
  where
    some : (x t : ℕ) → 512 ≤ x → 0 < mant x t
    some zero t a = absurd (omega arith)
    some (suc x) t a = mul-pos (lead t) (pow_pos x)
      where
        lead : (t : ℕ) → 0 < 2 ^ 52 + t
        lead t = omega arith

pub sqrt_square : (g : Float) → T (fits binary64 g) → 512 * 2 ^ 52 ≤ to_bits binary64 g → to_bits binary64 g < 1535 * 2 ^ 52
    → sqrt_of binary64 (mul binary64 g g) ≡ g
unfolding mag
sqrt_square g f l h = go (to_bits binary64 g / 2 ^ 52) (to_bits binary64 g % 2 ^ 52) (field_from (to_bits binary64 g) l) (to (to_bits binary64 g) h)
    (digits_lt (to_bits binary64 g)) (by_pattern g f h)
  where
    to : (b : ℕ) → b < 1535 * 2 ^ 52 → b / 2 ^ 52 < 1535
    to b h = omega arith

    digits_lt : (b : ℕ) → b % 2 ^ 52 < 2 ^ 52
    digits_lt b = omega arith

    go : (x t : ℕ) → 512 ≤ x → x < 1535 → t < 2 ^ 52 → HasValue g false (mant x t) (2 ^ 1074) → sqrt_of binary64 (mul binary64 g g) ≡ g
    go zero t a b c v = absurd (omega arith)
    go (suc x) t a b c v =
        let k : 2 ^ 52 + t ≡ 2 ^ 52 + t - 1 + 1 = pred t in
        sqrt_square_at g (2 ^ 52 + t - 1) x f (subst (λ (n : ℕ). HasValue g false (n * 2 ^ x) (2 ^ 1074)) k v) (lo t) (hi t c) (low x a) (high x b)
      where
        pred : (t : ℕ) → 2 ^ 52 + t ≡ 2 ^ 52 + t - 1 + 1
        pred t = omega arith

        lo : (t : ℕ) → 2 ^ 52 ≤ 2 ^ 52 + t - 1 + 1
        lo t = omega arith

        hi : (t : ℕ) → t < 2 ^ 52 → 2 ^ 52 + t - 1 + 1 < 2 ^ 53
        hi t c = omega arith

        low : (x : ℕ) → 512 ≤ suc x → 511 ≤ x
        low x a = omega arith

        high : (x : ℕ) → suc x < 1535 → x ≤ 1533
        high x b = omega arith
