-- `side_of` gives n exactly where the length is the whole number n, from 1 to 10,000.
use Rattle.std.specs.Prelude.{◌≡◌, ℕ, zero, suc, ◌+◌, ◌-◌, ◌*◌, ◌/◌, ◌^◌, ◌<◌, ◌≤◌, min, Bool, true, false, cond, ◌&&◌, ◌||◌, T, ℤ, pos, ◌==◌, Float}
use Rattle.std.proofs.Common.{zero-le, mul-pos, mul_right_comm, zero-lt-suc, arith, sym, ap, ◌∙◌, subst, lt→ltb, eqb→eq}
use Rattle.std.proofs.Math.Nat.{eq_of_mul-eq-mul_right, div-le_of_le-mul}
use Rattle.std.proofs.Math.Path.{refl}
use Rattle.std.specs.Bool.{beq}
use Rattle.std.proofs.Math.Dec.{le→leb}
use Rattle.std.specs.Float.{nan, inf, fin}
use Rattle.std.specs.Float.Ieee.{binary64, of_bits, up, down, le, lt, eq, fits, of_int, to_unsigned, in_float}
use Rattle.std.specs.Float.Ieee.Bits.{is_true}
use Rattle.std.specs.Float.Ieee.Fits.{down_pos, and_l, and_r, and_i, of_int-fits, eq→eqb}
use Rattle.std.specs.Float.Ieee.Exact.{HasValue}
use Rattle.std.specs.Float.Ieee.Back.{round_whole, unsigned_back}
use Rattle.std.specs.Float.Ieee.Order.{round_mono}
use Rattle.floats.specs.Whole.{whole, exact}
use Rattle.floats.specs.Compare.{says}
use Rattle.floats.specs.Unique.{unique}
use Rattle.fill_thousand.specs.Sides.{shortest, longest, cut, whole_or_none, side_of}

-- ---- the range: what lies from 1 to 10,000 is above -1 and below 2 ^ 64, and so is its whole part

least : (a b : ℕ) → 0 < a → 1 * 1 * a + b ≤ 0 → ⊥
least a b h k = omega arith

not_negative : (n : ℕ) (d : ℤ) → T (le shortest (fin true n d)) → ⊥
unfolding le of_bits
not_negative n d h = least (down d) (n * up d * 1) (down_pos d) (says false (1 * 1 * down d) true (n * up d * 1) h)

pub above_minus_one : (v : Float) → T (le shortest v) → T (lt (fin true 1 (pos 0)) v)
unfolding le lt of_bits
above_minus_one nan h = absurd h
above_minus_one (inf true) h = absurd h
above_minus_one (inf false) h = tt
above_minus_one (fin true n d) h = absurd (not_negative n d h)
above_minus_one (fin false n d) h = lt→ltb 0 (1 * 1 * down d + n * up d * 1) (more (down d) (n * up d * 1) (down_pos d))
  where
    more : (a b : ℕ) → 0 < a → 0 < 1 * 1 * a + b
    more a b k = omega arith

pub below_words : (v : Float) → T (le shortest v) → T (le v longest) → T (lt v (fin false 1 (pos 64)))
unfolding le lt of_bits
below_words nan h k = absurd h
below_words (inf true) h k = absurd h
below_words (inf false) h k = absurd k
below_words (fin true n d) h k = absurd (not_negative n d h)
below_words (fin false n d) h k =
    lt→ltb (n * up d * 1) (1 * 2 ^ 64 * down d)
    (less (n * up d) (down d) (down_pos d) (says false (n * up d * 1) false (625 * 2 ^ 4 * down d) k))
  where
    less : (a b : ℕ) → 0 < b → a * 1 ≤ 625 * 2 ^ 4 * b → a * 1 < 1 * 2 ^ 64 * b
    less a b p q = omega arith

pub cut_most : (v : Float) → T (le v longest) → cut v ≤ 10000
unfolding le of_bits to_unsigned
cut_most nan k = absurd k
cut_most (inf true) k = zero-le
cut_most (inf false) k = absurd k
cut_most (fin true n d) k = zero-le
cut_most (fin false n d) k =
    least_of (n * up d / down d) (2 ^ 64 - 1)
    (div-le_of_le-mul (down d) (less (n * up d) (down d) (says false (n * up d * 1) false (625 * 2 ^ 4 * down d) k)))
  where
    less : (a b : ℕ) → a * 1 ≤ 625 * 2 ^ 4 * b → a ≤ b * 10000
    less a b q = omega arith

    least_of : (a b : ℕ) → a ≤ 10000 → min a b ≤ 10000
    least_of a b p = omega arith

pub side_most : (v : Float) → side_of v ≤ 10000
unfolding side_of whole_or_none
side_most v = go (le shortest v && le v longest) (eq (whole (cut v)) v) (λ t. cut_most v (and_r (le shortest v) (le v longest) t))
  where
    go : (p q : Bool) → (T p → cut v ≤ 10000) → cond p (cond q (cut v) 0) 0 ≤ 10000
    go true true h = h tt
    go true false h = zero-le
    go false q h = zero-le

-- ---- by the comparison with a length's whole part

pub whole_kept : (v w : Float) (n : ℕ) → n ≡ cut v → w ≡ whole n → eq w v ≡ true → n ≡ whole_or_none v
unfolding whole_or_none
whole_kept v w n e f h =
    e ∙ sym (ap (λ (b : Bool). cond b (cut v) 0) (ap (λ (k : ℕ). eq (whole k) v) (sym e) ∙ ap (λ (u : Float). eq u v) (sym f) ∙ h))

pub whole_lost : (v w : Float) (n : ℕ) → n ≡ cut v → w ≡ whole n → eq w v ≡ false → 0 ≡ whole_or_none v
unfolding whole_or_none
whole_lost v w n e f h =
    sym (ap (λ (b : Bool). cond b (cut v) 0) (ap (λ (k : ℕ). eq (whole k) v) (sym e) ∙ ap (λ (u : Float). eq u v) (sym f) ∙ h))

-- ---- a float that equals another, which is not 0, has its value

same_sign : (s t : Bool) (a : ℕ) → 0 < a → T (beq s t || a == 0) → t ≡ s
same_sign true true a p h = refl
same_sign false false a p h = refl
same_sign true false a p h = absurd (none (eqb→eq a 0 h))
  where
    none : a ≡ 0 → ⊥
    none e = omega arith
same_sign false true a p h = absurd (none (eqb→eq a 0 h))
  where
    none : a ≡ 0 → ⊥
    none e = omega arith

eq_value : (x y : Float) (s : Bool) (a c : ℕ) → 0 < a → 0 < c → HasValue x s a c → T (eq x y) → HasValue y s a c
unfolding eq
eq_value nan y s a c A C p h = absurd p
eq_value (inf u) y s a c A C p h = absurd p
eq_value (fin u m e) nan s a c A C p h = absurd h
eq_value (fin u m e) (inf t) s a c A C p h = absurd h
eq_value (fin u m e) (fin t n d) s a c A C p h =
    let l = and_l (m * up e * down d == n * up d * down e) (beq u t || m * up e * down d == 0) h in
    let r = and_r (m * up e * down d == n * up d * down e) (beq u t || m * up e * down d == 0) h in
    let k = eqb→eq (m * up e * down d) (n * up d * down e) l in (
      same_sign u t (m * up e * down d) (mul-pos (some (m * up e) c (a * down e) (mul-pos A (down_pos e)) p.1) (down_pos d)) r ∙ p.0,
      turned (m * up e) (down e) (n * up d) (down d) (down_pos e) p.1 k,
    )
  where
    some : (x c b : ℕ) → 0 < b → x * c ≡ b → 0 < x
    some zero c b q e = absurd (none e)
      where
        none : zero * c ≡ b → ⊥
        none e = omega arith
    some (suc x) c b q e = zero-lt-suc x

    turned : (X P Y Q : ℕ) → 0 < P → X * c ≡ a * P → X * Q ≡ Y * P → Y * c ≡ a * Q
    turned X P Y Q p h k =
        eq_of_mul-eq-mul_right P p (Y * c) (a * Q)
        (mul_right_comm Y c P ∙ ap (λ (z : ℕ). z * c) (sym k) ∙ mul_right_comm X Q c ∙ ap (λ (z : ℕ). z * Q) h ∙ mul_right_comm a P Q)

whole_value : (n : ℕ) → n ≤ exact → HasValue (whole n) false n 1
unfolding of_int
whole_value n h = round_whole binary64 false n h

same : (a : ℕ) → T (a == a)
same a = let e : a ≡ a = refl in eq→eqb e

eq_self : (v : Float) (n : ℕ) → HasValue v false n 1 → T (eq v v)
unfolding eq
eq_self nan n p = absurd p
eq_self (inf s) n p = absurd p
eq_self (fin true m e) n p = and_i (m * up e * down e == m * up e * down e) true (same (m * up e * down e)) tt
eq_self (fin false m e) n p = and_i (m * up e * down e == m * up e * down e) true (same (m * up e * down e)) tt

-- ---- what `side_of` says

-- a length of n is n
pub side_is : (v : Float) (n : ℕ) → T (fits binary64 v) → 0 < n → side_of v ≡ n → (v ≡ whole n) × (n ≤ 10000)
unfolding side_of whole_or_none
side_is v n f N e = (
  go (le shortest v && le v longest) (eq (whole (cut v)) v) refl e,
  subst (λ (k : ℕ). k ≤ 10000) e (side_most v),
)
  where
    none : 0 ≡ n → ⊥
    none k = omega arith

    go : (p q : Bool) → eq (whole (cut v)) v ≡ q → cond p (cond q (cut v) 0) 0 ≡ n → v ≡ whole n
    go true true h k =
        unique binary64 v (whole n) false n 1 (zero-lt-suc 0) f (of_int-fits binary64 (pos n))
        (eq_value (whole n) v false n 1 N (zero-lt-suc 0) (whole_value n small) (subst T (sym (subst (λ (i : ℕ). eq (whole i) v ≡ true) k h)) tt))
        (whole_value n small)
      where
        small : n ≤ exact
        small = omega (arith, subst (λ (i : ℕ). i ≤ 10000) e (side_most v))
    go true false h k = absurd (none k)
    go false q h k = absurd (none k)

-- the length n is a side of n
pub side_of_lem : (n : ℕ) → 0 < n → n ≤ 10000 → side_of (whole n) ≡ n
unfolding side_of whole_or_none
side_of_lem n N h =
    ap (λ (b : Bool). cond b (cond (eq (whole (cut (whole n))) (whole n)) (cut (whole n)) 0) 0)
    (is_true (le shortest (whole n) && le (whole n) longest) (and_i (le shortest (whole n)) (le (whole n) longest) low high))
    ∙ ap (λ (k : ℕ). cond (eq (whole k) (whole n)) k 0) back
    ∙ ap (λ (b : Bool). cond b n 0) (is_true (eq (whole n) (whole n)) (eq_self (whole n) n (whole_value n (omega arith))))
  where
    low : T (le shortest (whole n))
    low = subst (λ (v : Float). T (le v (whole n))) one (unfold of_int in round_mono binary64 1 1 n 1 (zero-lt-suc 0) (zero-lt-suc 0) (omega arith))
      where
        one : whole 1 ≡ shortest
        one = unfold of_int of_bits in refl

    high : T (le (whole n) longest)
    high = subst (λ (v : Float). T (le (whole n) v)) most (unfold of_int in round_mono binary64 n 1 10000 1 (zero-lt-suc 0) (zero-lt-suc 0) (omega arith))
      where
        most : whole 10000 ≡ longest
        most = unfold of_int of_bits in refl

    back : cut (whole n) ≡ n
    back = (unsigned_back binary64 64 n (unfold in_float in le→leb n (2 ^ 53) (omega arith)) (omega arith)).1
