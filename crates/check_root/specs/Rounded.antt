-- The bit pattern near_root t + d * 2 ^ 52 is that of `rounded` of t * 4 ^ d, where the root of t has 53 digits.
use Rattle.std.specs.Prelude.{◌≡◌, ℕ, zero, suc, ◌+◌, ◌-◌, ◌*◌, ◌/◌, ◌^◌, ◌≤◌, ◌<◌, Bool, true, false, T, ℤ, Float}
use Rattle.std.proofs.Common.{sym, ap, ◌∙◌, subst, inl, inr, le_trans, le_of_eq, lt_of_lt_of_le, lt_of_le_of_lt, eq-or-lt_of_le, mul_assoc, mul-le-mul_left}
use Rattle.std.proofs.Common.{mul-le-mul_right, mul-div_cancel, le_refl, mul-lt-mul_of_pos_right, zero-add, arith, lit<, pow-add, pow_pos, pow_mono}
use Rattle.std.proofs.lemmas.Nat.{shl-shr}
use Rattle.std.specs.Float.{nan, inf, fin, binary64}
use Rattle.std.specs.Float.Ieee.{size, up, down, to_bits, of_bits, fits, round}
use Rattle.std.specs.Float.Ieee.Bits.{of_bits-to_bits}
use Rattle.std.specs.Float.Ieee.Fits.{down_pos, round-fits, nan-fits, inf-fits}
use Rattle.std.specs.Float.Ieee.Exact.{HasValue}
use Rattle.std.specs.Float.Ieee.Scale.{grid, overflow, round_val}
use Rattle.std.specs.Float.Ieee.Order.{drop, kept}
use Rattle.check_root.specs.Root.{root, rest, near_root}
use Rattle.check_root.specs.Sqrt.{rounded, sqrt_of}
use Rattle.check_root.specs.Squares.{Near}
use Rattle.check_root.specs.Powers.{pow4_pos}
use Rattle.check_root.specs.Roots.{root_ge, root_lt, near_ge, near_between, root_low, root_high, root_from, root_under, middle_below, middle_above}
use Rattle.check_root.specs.Roots.{half_is}
use Rattle.check_root.specs.Round.{size_is, drop_is, kept_is}

-- ---- the pattern of a value of a units

fin_bits : (m : ℕ) (e : ℤ) (a : ℕ) → m * up e * 2 ^ 1074 ≡ a * down e → to_bits binary64 (fin false m e) ≡ (size a - 53) * 2 ^ 52 + a / 2 ^ (size a - 53)
unfolding to_bits
fin_bits m e a h =
    let n : m * up e * 2 ^ 1074 / down e ≡ a = ap (λ (x : ℕ). x / down e) h ∙ mul-div_cancel a (down_pos e) in
    ap (λ (x : ℕ). 0 + (size x - 53) * 2 ^ 52 + x / 2 ^ (size x - 53)) n ∙ ap (λ (x : ℕ). x + a / 2 ^ (size a - 53)) (zero-add ((size a - 53) * 2 ^ 52))

pub value_bits : (v : Float) (a : ℕ) → HasValue v false a (2 ^ 1074) → to_bits binary64 v ≡ (size a - 53) * 2 ^ 52 + a / 2 ^ (size a - 53)
value_bits nan a h = absurd h
value_bits (inf s) a h = absurd h
value_bits (fin s m e) a h = subst (λ (b : Bool). to_bits binary64 (fin b m e) ≡ (size a - 53) * 2 ^ 52 + a / 2 ^ (size a - 53)) (sym h.0)
    (fin_bits m e a h.1)

-- two floats of the format with one value
pub same_value : (x y : Float) (a : ℕ) → T (fits binary64 x) → T (fits binary64 y) → HasValue x false a (2 ^ 1074) → HasValue y false a (2 ^ 1074) → x ≡ y
same_value x y a p q h k =
    sym (of_bits-to_bits binary64 x p) ∙ ap (of_bits binary64) (value_bits x a h ∙ sym (value_bits y a k)) ∙ of_bits-to_bits binary64 y q

size_normal : (k d : ℕ) → 2 ^ 52 ≤ k → k < 2 ^ 53 → size (k * 2 ^ d) ≡ 52 + d + 1
size_normal k d l h =
    size_is (k * 2 ^ d) (52 + d) (le_trans (le_of_eq (pow-add 2 52 d)) (mul-le-mul_right (2 ^ d) l))
    (lt_of_lt_of_le (mul-lt-mul_of_pos_right h (pow_pos d)) (le_of_eq (sym (pow-add 2 53 d) ∙ ap (λ (x : ℕ). 2 ^ x) (turn d))))
  where
    turn : (x : ℕ) → 53 + x ≡ 52 + x + 1
    turn x = omega arith

pub bits_normal : (k d : ℕ) → 2 ^ 52 ≤ k → k < 2 ^ 53 → (size (k * 2 ^ d) - 53) * 2 ^ 52 + k * 2 ^ d / 2 ^ (size (k * 2 ^ d) - 53) ≡ k + d * 2 ^ 52
bits_normal k d l h =
    ap (λ (x : ℕ). x * 2 ^ 52 + k * 2 ^ d / 2 ^ x) (less (size (k * 2 ^ d)) (size_normal k d l h))
    ∙ ap (λ (x : ℕ). d * 2 ^ 52 + x) (shl-shr k d) ∙ swap (d * 2 ^ 52) k
  where
    less : (x : ℕ) → x ≡ 52 + d + 1 → x - 53 ≡ d
    less x e = omega arith

    swap : (x y : ℕ) → x + y ≡ y + x
    swap x y = omega arith

-- 2 ^ 53 * 2 ^ d is 2 ^ 52 * 2 ^ (d + 1)
pub bits_carry : (d : ℕ) → (size (2 ^ 53 * 2 ^ d) - 53) * 2 ^ 52 + 2 ^ 53 * 2 ^ d / 2 ^ (size (2 ^ 53 * 2 ^ d) - 53) ≡ 2 ^ 53 + d * 2 ^ 52
bits_carry d =
    ap (λ (x : ℕ). (size x - 53) * 2 ^ 52 + x / 2 ^ (size x - 53)) (again (2 ^ d) (pow-add 2 d 1)) ∙ bits_normal (2 ^ 52) (d + 1) (le_refl (2 ^ 52)) (lit< tt)
    ∙ sum d
  where
    again : (p : ℕ) → 2 ^ (d + 1) ≡ p * 2 → 2 ^ 53 * p ≡ 2 ^ 52 * 2 ^ (d + 1)
    again p e = omega arith

    sum : (x : ℕ) → 2 ^ 52 + (x + 1) * 2 ^ 52 ≡ 2 ^ 53 + x * 2 ^ 52
    sum x = omega arith

units_bits : (k d : ℕ) → 2 ^ 52 ≤ k → k ≤ 2 ^ 53 → (size (k * 2 ^ d) - 53) * 2 ^ 52 + k * 2 ^ d / 2 ^ (size (k * 2 ^ d) - 53) ≡ k + d * 2 ^ 52
units_bits k d l h =
    elim (eq-or-lt_of_le h) [
      | inl e ↦ subst (λ (x : ℕ). (size (x * 2 ^ d) - 53) * 2 ^ 52 + x * 2 ^ d / 2 ^ (size (x * 2 ^ d) - 53) ≡ x + d * 2 ^ 52) (sym e) (bits_carry d)
      | inr g ↦ bits_normal k d l g
    ]

-- ---- `rounded` in units, by squares of whole numbers

abbrev twice : ℕ → ℕ
twice n = 2 * root n + rest n

grid_at : (n h p u : ℕ) → 0 < u → Near n p (h + 1) → kept 53 (twice n * u) (2 * u) * 2 ^ drop 53 (twice n * u) (2 * u) ≡ (p + 1) * 2 ^ (h + 1)
grid_at n h p u U b =
    let d : ℕ = h + 1 in
    let a = twice n in
    let x : drop 53 (a * u) (2 * u) ≡ d = drop_is a u d U (subst (λ (z : ℕ). 2 ^ 52 * 2 ^ d ≤ z) (sym (half_is n)) (root_from n (2 ^ 52) d b.from))
    (subst (λ (z : ℕ). z < 2 ^ 53 * 2 ^ d) (sym (half_is n)) (root_under n (2 ^ 53) d b.under)) in
    let y : kept 53 (a * u) (2 * u) ≡ p + 1 = kept_is a u d U p x (middle_below (2 * p + 1) n h b.left) (middle_above (2 * p + 3) n h b.right) in
    ap (λ (z : ℕ). z * 2 ^ drop 53 (a * u) (2 * u)) y ∙ ap (λ (z : ℕ). (p + 1) * 2 ^ z) x

grid_is : (n d p : ℕ) → 0 < d → Near n p d → grid binary64 (twice n) (2 * 2 ^ 1074) ≡ (p + 1) * 2 ^ d
grid_is n d p D b =
    let h : d - 1 + 1 ≡ d = back d D in
    subst (λ (x : ℕ). grid binary64 (twice n) (2 * 2 ^ 1074) ≡ (p + 1) * 2 ^ x) h
    (grid_at n (d - 1) p (2 ^ 1074) (pow_pos 1074) (subst (λ (x : ℕ). Near n p x) (sym h) b))
  where
    back : (x : ℕ) → 0 < x → x - 1 + 1 ≡ x
    back x a = omega arith

under : (k d : ℕ) → k ≤ 2 ^ 53 → d ≤ 1533 → k * 2 ^ d < overflow binary64
under k d l h = lt_of_le_of_lt (le_trans (mul-le-mul_right (2 ^ d) l) (mul-le-mul_left (2 ^ 53) (pow_mono h))) (lit< tt)

pub near_le : (t : ℕ) → root t < 2 ^ 53 → near_root t ≤ 2 ^ 53
near_le t h = go (root t) (near_root t) (near_ge t).1 h
  where
    go : (r k : ℕ) → k ≤ r + 1 → r < 2 ^ 53 → k ≤ 2 ^ 53
    go r k a b = omega arith

-- So the rounded root is that multiple of 2 ^ d. Since `Near` leaves no choice of d and p, this says all of what `rounded` is.
pub rounded_value : (n d p : ℕ) → 0 < d → d ≤ 1533 → p < 2 ^ 53 → Near n p d → HasValue (rounded binary64 n) false ((p + 1) * 2 ^ d) (2 ^ 1074)
unfolding rounded
rounded_value n d p D E P b =
    let e = grid_is n d p D b in
    subst (λ (x : ℕ). HasValue (round binary64 false (twice n) (2 * 2 ^ 1074)) false x (2 ^ 1074)) e
    (round_val binary64 (twice n) (2 * 2 ^ 1074) (subst (λ (x : ℕ). x < overflow binary64) (sym e) (under (p + 1) d (omega arith) E)))

pub near_scaled : (t d p : ℕ) → 2 ^ 52 ≤ root t → root t < 2 ^ 53 → near_root t ≡ p + 1 → Near (t * 4 ^ d) p d
near_scaled t d p l g e =
    let b = near_between t p e in
    record {
      from = mul-le-mul_right (4 ^ d) (le_trans (le_trans (mul-le-mul_left (2 ^ 52) l) (mul-le-mul_right (root t) l)) (root_low t));
      under = mul-lt-mul_of_pos_right (lt_of_lt_of_le (root_high t) (le_trans (mul-le-mul_left (root t + 1) (next g)) (mul-le-mul_right (2 ^ 53) (next g))))
          (pow4_pos d);
      left = lt_of_lt_of_le (mul-lt-mul_of_pos_right b.0 (pow4_pos d)) (le_of_eq (mul_assoc 4 t (4 ^ d)));
      right = lt_of_le_of_lt (le_of_eq (sym (mul_assoc 4 t (4 ^ d)))) (mul-lt-mul_of_pos_right b.1 (pow4_pos d));
    }
  where
    next : root t < 2 ^ 53 → root t + 1 ≤ 2 ^ 53
    next k = omega arith

pub rounded_fits : (n : ℕ) → T (fits binary64 (rounded binary64 n))
unfolding rounded
rounded_fits n = round-fits binary64 false (2 * root n + rest n) (2 * 2 ^ 1074)

-- a root is a value of the format
pub sqrt_keeps : (x : Float) → T (fits binary64 x) → T (fits binary64 (sqrt_of binary64 x))
unfolding sqrt_of
sqrt_keeps nan p = nan-fits binary64
sqrt_keeps (inf true) p = nan-fits binary64
sqrt_keeps (inf false) p = inf-fits binary64 false
sqrt_keeps (fin true zero e) p = p
sqrt_keeps (fin false zero e) p = p
sqrt_keeps (fin true (suc m) e) p = nan-fits binary64
sqrt_keeps (fin false (suc m) e) p = rounded_fits (suc m * up e * 4 ^ 1074 / down e)

pub of_near : (t d : ℕ) → 2 ^ 52 ≤ root t → root t < 2 ^ 53 → 0 < d → d ≤ 1533 → of_bits binary64 (near_root t + d * 2 ^ 52) ≡ rounded binary64 (t * 4 ^ d)
of_near t d l g D E =
    let v = rounded binary64 (t * 4 ^ d) in
    let p : ℕ = near_root t - 1 in
    let q : near_root t ≡ p + 1 = from (root t) (near_root t) l (near_ge t).0 in
    let h = rounded_value (t * 4 ^ d) d p D E (small (near_root t) (near_le t g)) (near_scaled t d p l g q) in
    let b : to_bits binary64 v ≡ near_root t + d * 2 ^ 52 =
    value_bits v (near_root t * 2 ^ d) (subst (λ (x : ℕ). HasValue v false (x * 2 ^ d) (2 ^ 1074)) (sym q) h) ∙ units_bits (near_root t) d
    (le_trans l (near_ge t).0) (near_le t g) in
    ap (of_bits binary64) (sym b) ∙ of_bits-to_bits binary64 v (rounded_fits (t * 4 ^ d))
  where
    from : (r k : ℕ) → 2 ^ 52 ≤ r → r ≤ k → k ≡ k - 1 + 1
    from r k a b = omega arith

    small : (k : ℕ) → k ≤ 2 ^ 53 → k - 1 < 2 ^ 53
    small k h = omega arith

-- ---- in `of_pattern`'s terms

pub of_scaled : (m g : ℕ) → 2 ^ 52 ≤ m → m < 2 ^ 54 → 510 ≤ g → g < 1560
    → of_bits binary64 (near_root (m * 4 ^ 26) + (g - 26) * 2 ^ 52) ≡ rounded binary64 (m * 4 ^ g)
of_scaled m g l h a b =
    of_near (m * 4 ^ 26) (g - 26) (root_ge (m * 4 ^ 26) (2 ^ 52) (omega arith)) (root_lt (m * 4 ^ 26) (2 ^ 53) (omega arith)) (omega arith) (omega arith)
    ∙ ap (λ (x : ℕ). rounded binary64 x)
    (mul_assoc m (4 ^ 26) (4 ^ (g - 26)) ∙ ap (λ (x : ℕ). m * x) (sym (pow-add 4 26 (g - 26)) ∙ ap (λ (x : ℕ). 4 ^ x) (all g a)))
  where
    all : (g : ℕ) → 510 ≤ g → 26 + (g - 26) ≡ g
    all g a = omega arith
