-- `sqrt_of` by the cases of `sqrt`'s tests.
use Rattle.std.specs.Prelude.{◌≡◌, refl, ℕ, zero, suc, ◌+◌, ◌-◌, ◌*◌, ◌/◌, ◌%◌, ◌^◌, ◌≤◌, ◌<◌, Bool, true, false, ◌&&◌, ◌||◌, cond, T, leb, ltb, eqb, ℤ, Float}
use Rattle.std.proofs.Common.{sym, ap, ◌∙◌, subst, le_of_eq, lt_of_lt_of_le, not-le_of_lt, lt_irrefl, zero-lt-suc, zero-mul, mul-one, mul-pos, mul_assoc}
use Rattle.std.proofs.Common.{mul_right_comm, mul-lt-mul_of_pos_right, mul-div_cancel, div-lt_iff_lt-mul, mod-eq_of_lt, eq-zero-or-pos, arith, ltb→lt, eqb→eq}
use Rattle.std.proofs.Common.{lt→ltb, pow_pos, inl, inr}
use Rattle.std.specs.Bool.{beq}
use Rattle.std.proofs.Math.Dec.{not_T}
use Rattle.std.specs.Float.{nan, inf, fin, binary64}
use Rattle.std.specs.Float.Ieee.{size, odd, up, down, to_bits, of_bits, of_fields, fits, ne, eq, lt, div}
use Rattle.std.specs.Float.Ieee.Bits.{of_bits-to_bits, is_false, cond_no}
use Rattle.std.specs.Float.Ieee.Compare.{differs_from_itself}
use Rattle.std.specs.Float.Ieee.Digits.{size-le}
use Rattle.std.specs.Float.Ieee.Exact.{HasValue, odd_sign}
use Rattle.std.specs.Float.Ieee.Fits.{down_pos, up_pos, kept-lt, and_l, and_r, and_i, eq→eqb}
use Rattle.std.proofs.lemmas.Bool.{lt-leb}
use Rattle.check_root.specs.Sqrt.{rounded, sqrt_of, mag, mant}

abbrev z : Float
z = of_bits binary64 0

yes : {b : Bool} → b ≡ true → T b
yes e = subst T (sym e) tt

no : {b : Bool} → b ≡ false → T b → ⊥
no e t = subst T e t

-- ---- the tests

pub at_nan : (x : Float) → ne x x ≡ true → x ≡ sqrt_of binary64 x
unfolding sqrt_of
at_nan x e = let n = differs_from_itself x (yes e) in n ∙ sym (ap (sqrt_of binary64) n)

pos_zero : (m : ℕ) (e : ℤ) → suc m * up e * 1 ≡ 0 → ⊥
pos_zero m e h = lt_irrefl 0 (subst (λ (x : ℕ). 0 < x) h (mul-pos (mul-pos (zero-lt-suc m) (up_pos e)) (zero-lt-suc 0)))

pub at_zero : (x : Float) → eq x z ≡ true → x ≡ sqrt_of binary64 x
unfolding sqrt_of eq of_bits
at_zero nan e = absurd (no refl (yes e))
at_zero (inf s) e = absurd (no refl (yes e))
at_zero (fin s zero d) e = refl
at_zero (fin s (suc m) d) e = absurd
    (pos_zero m d (eqb→eq _ _ (and_l (eqb (suc m * up d * 1) (0 * down d)) (beq s false || eqb (suc m * up d * 1) 0) (yes e)) ∙ zero-mul (down d)))

pub at_negative : (x : Float) → lt x z ≡ true → div binary64 z z ≡ sqrt_of binary64 x
unfolding sqrt_of lt of_bits div
at_negative nan e = absurd (no refl (yes e))
at_negative (inf true) e = refl
at_negative (inf false) e = absurd (no refl (yes e))
at_negative (fin true zero d) e =
    let h : 0 < 0 * up d * 1 + 0 * down d = ltb→lt _ _ (yes e) in
    absurd (omega arith)
at_negative (fin true (suc m) d) e = refl
at_negative (fin false m d) e =
    let h : m * up d * 1 < 0 * down d = ltb→lt _ _ (yes e) in
    absurd (omega arith)

-- what is left after the tests: the infinity, and the numbers above zero
pub data View : Float → Type 0 where
  infinite : View (inf false)
  above : (m : ℕ) (e : ℤ) → View (fin false (suc m) e)

clash : {b : Bool} → b ≡ false → b ≡ true → ⊥
clash e f = no e (yes f)

pub view : (x : Float) → ne x x ≡ false → eq x z ≡ false → lt x z ≡ false → View x
unfolding ne eq lt of_bits
view nan a b c = absurd (no a tt)
view (inf true) a b c = absurd (no c tt)
view (inf false) a b c = infinite
view (fin s zero e) a b c = absurd
    (no b (and_i (eqb (0 * up e * 1) (0 * down e)) (beq s false || eqb (0 * up e * 1) 0) (eq→eqb (same (up e) (down e)))
    (or_r (beq s false) (eqb (0 * up e * 1) 0) (eq→eqb (gone (up e))))))
  where
    same : (x y : ℕ) → 0 * x * 1 ≡ 0 * y
    same x y = omega arith

    gone : (x : ℕ) → 0 * x * 1 ≡ 0
    gone x = omega arith

    or_r : (p q : Bool) → T q → T (p || q)
    or_r true q t = tt
    or_r false q t = t
view (fin true (suc m) e) a b c = absurd (no c (lt→ltb _ _ (more (suc m * up e) (mul-pos (zero-lt-suc m) (up_pos e)) (down e))))
  where
    more : (x : ℕ) → 0 < x → (y : ℕ) → 0 < x * 1 + 0 * y
    more x h y = omega arith
view (fin false (suc m) e) a b c = above m e

-- ---- the pattern of such a number

pub pattern_pos : (x : Float) → T (fits binary64 x) → eq x z ≡ false → 0 < to_bits binary64 x
unfolding eq of_bits
pattern_pos x f n =
    elim (eq-zero-or-pos (to_bits binary64 x)) [
      | inl e ↦ absurd (clash n (ap (λ (y : Float). eq y z) (sym (of_bits-to_bits binary64 x f) ∙ ap (of_bits binary64) e)))
      | inr h ↦ h
    ]

pub pattern_above : (m : ℕ) (e : ℤ) → T (fits binary64 (fin false (suc m) e)) → 0 < to_bits binary64 (fin false (suc m) e)
unfolding eq of_bits
pattern_above m e f = pattern_pos (fin false (suc m) e) f
    (is_false _ (not_T (eq (fin false (suc m) e) z)
    (λ (t : T (eq (fin false (suc m) e) z)). pos_zero m e (eqb→eq _ _ (and_l (eqb (suc m * up e * 1) (0 * down e)) true t) ∙ zero-mul (down e)))))

-- every finite number's pattern is below that of the infinity
pub fin_under : (m : ℕ) (e : ℤ) → T (fits binary64 (fin false (suc m) e)) → to_bits binary64 (fin false (suc m) e) < 2047 * 2 ^ 52
unfolding fits to_bits
fin_under m e f =
    let a : ℕ = suc m * up e * 2 ^ 1074 / down e in
    let h : suc m * up e < 2 ^ 1024 * down e = ltb→lt _ _
    (and_r (eqb (suc m % 2) 1 && ltb (suc m) (2 ^ 53) && leb (down e) (2 ^ 1074)) (ltb (suc m * up e) (2 ^ 1024 * down e)) f) in
    let l : a < 2 ^ 2098 =
    (div-lt_iff_lt-mul (down_pos e)).1 (lt_of_lt_of_le (mul-lt-mul_of_pos_right h (pow_pos 1074)) (le_of_eq (mul_right_comm (2 ^ 1024) (down e) (2 ^ 1074)))) in
    sum (size a) (a / 2 ^ (size a - 53)) (size-le a 2098 l) (kept-lt 53 a)
  where
    sum : (s q : ℕ) → s ≤ 2098 → q < 2 ^ 53 → 0 + (s - 53) * 2 ^ 52 + q < 2047 * 2 ^ 52
    sum s q h k = omega arith

pub at_infinity : (x : Float) → View x → T (fits binary64 x) → 2047 * 2 ^ 52 ≤ to_bits binary64 x → x ≡ sqrt_of binary64 x
unfolding sqrt_of
at_infinity x infinite f h = refl
at_infinity x (above m e) f h = absurd (not-le_of_lt (fin_under m e f) h)

-- ---- what the pattern stands for

fields_value : (f t : ℕ) → f < 2047 → HasValue (of_fields binary64 false f t) false (mant f t) (2 ^ 1074)
unfolding of_fields
fields_value zero t h = subst (λ (x : ℕ). HasValue (odd 53 false t 0 1074) false x (2 ^ 1074)) (mul-one t) (odd_sign 53 false t 0 1074)
fields_value (suc x) t h =
    subst (λ (v : Float). HasValue v false ((2 ^ 52 + t) * 2 ^ x) (2 ^ 1074))
    (sym (cond_no (eqb (suc x) 2047) (cond (eqb t 0) (inf false) nan) (odd 53 false (2 ^ 52 + t) x 1074)
    (not_T (eqb (suc x) 2047) (λ (u : T (eqb (suc x) 2047)). differ x h (eqb→eq (suc x) 2047 u)))))
    (odd_sign 53 false (2 ^ 52 + t) x 1074)
  where
    differ : (x : ℕ) → suc x < 2047 → suc x ≡ 2047 → ⊥
    differ x h e = omega arith

pub bits_value : (b : ℕ) → b < 2047 * 2 ^ 52 → HasValue (of_bits binary64 b) false (mag b) (2 ^ 1074)
unfolding of_bits mag
bits_value b h =
    let s : leb (2 ^ 63) b ≡ false = lt-leb (2 ^ 63) b (small b h) in
    let r : b % 2 ^ 63 ≡ b = mod-eq_of_lt (small b h) in
    subst (λ (v : Float). HasValue v false (mant (b / 2 ^ 52) (b % 2 ^ 52)) (2 ^ 1074))
    (sym (ap (λ (t : Bool). of_fields binary64 t (b % 2 ^ 63 / 2 ^ 52) (b % 2 ^ 52)) s ∙ ap (λ (n : ℕ). of_fields binary64 false (n / 2 ^ 52) (b % 2 ^ 52)) r))
    (fields_value (b / 2 ^ 52) (b % 2 ^ 52) (field b h))
  where
    small : (b : ℕ) → b < 2047 * 2 ^ 52 → b < 2 ^ 63
    small b h = omega arith

    field : (b : ℕ) → b < 2047 * 2 ^ 52 → b / 2 ^ 52 < 2047
    field b h = omega arith

pub fin_mag : (m : ℕ) (e : ℤ) (a : ℕ) → m * up e * 2 ^ 1074 ≡ a * down e → m * up e * 4 ^ 1074 / down e ≡ a * 2 ^ 1074
fin_mag m e a h = go (2 ^ 1074) (4 ^ 1074) refl h
  where
    regroup : (x y z : ℕ) → x * y * z ≡ x * z * y
    regroup x y z = omega arith

    go : (u w : ℕ) → w ≡ u * u → m * up e * u ≡ a * down e → m * up e * w / down e ≡ a * u
    go u w k l =
        ap (λ (x : ℕ). x / down e) (ap (λ (x : ℕ). m * up e * x) k ∙ sym (mul_assoc (m * up e) u u) ∙ ap (λ (x : ℕ). x * u) l ∙ regroup a (down e) u)
        ∙ mul-div_cancel (a * u) (down_pos e)

inf_not : to_bits binary64 (inf false) < 2047 * 2 ^ 52 → ⊥
unfolding to_bits
inf_not l = lt_irrefl (2047 * 2 ^ 52) l

-- a number's units of 4 ^ -1074, by its pattern
pub number_mag : (m : ℕ) (e : ℤ) → T (fits binary64 (fin false (suc m) e))
    → suc m * up e * 4 ^ 1074 / down e ≡ mag (to_bits binary64 (fin false (suc m) e)) * 2 ^ 1074
number_mag m e f =
    let b = to_bits binary64 (fin false (suc m) e) in
    let v = subst (λ (y : Float). HasValue y false (mag b) (2 ^ 1074)) (of_bits-to_bits binary64 (fin false (suc m) e) f) (bits_value b (fin_under m e f)) in
    fin_mag (suc m) e (mag b) v.1

pub at_number : (x : Float) → View x → T (fits binary64 x) → to_bits binary64 x < 2047 * 2 ^ 52
    → rounded binary64 (mag (to_bits binary64 x) * 2 ^ 1074) ≡ sqrt_of binary64 x
unfolding sqrt_of
at_number x infinite f h = absurd (inf_not h)
at_number x (above m e) f h = ap (λ (n : ℕ). rounded binary64 n) (sym (number_mag m e f))
