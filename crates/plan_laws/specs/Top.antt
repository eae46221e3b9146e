-- Sums and differences at the top of the range: what rounding can bring past 1,000,000,000, and what it cannot.
use Rattle.std.specs.Prelude.{◌≡◌, refl, Bool, not, ◌&&◌, cond, ℕ, zero, suc, ◌+◌, ◌-◌, ◌*◌, ◌/◌, ◌^◌, ◌≤◌, ◌<◌, ltb, ℤ, Float}
use Rattle.std.proofs.Common.{sym, subst, ap, ◌∙◌, true≢false, mul-pos, zero-lt-suc, le_trans, mul-le-mul_right, eq-eqb, nltb→le, lit≤, pow_pos}
use Rattle.std.proofs.Math.Bool.{true, false}
use Rattle.std.proofs.Math.Nat.{zero-div}
use native.Mathlib.Omega.{arith}
use Rattle.std.proofs.Math.Dec.{T}
use Rattle.std.specs.Float.{nan, inf, fin, Format, binary64}
use Rattle.std.specs.Float.Ieee.{prec, emax, low, of_bits, to_bits, size, up, down, odd, units, round, sum, add, sub, neg, le}
use Rattle.std.specs.Float.Ieee.Fits.{down_pos}
use Rattle.std.specs.Float.Ieee.Order.{round_mono}
use Rattle.floats.specs.Ops.{none, ◌⊕◌, ◌⊖◌}
use Rattle.floats.specs.Compare.{says, said}
use Rattle.floats.specs.Order.{signed, round_signed}
use Rattle.floats.specs.Weak.{true_false}
use Rattle.domain.specs.Ranges.{least_length, most, is_measure, slack}
use Rattle.lists.specs.Bools.{and_left, and_right}

-- what is negative is at most what is not
under : (v w : Float) → signed true v → signed false w → T (le v w)
unfolding le
under nan w p q = absurd p
under (inf false) w p q = absurd (true≢false (sym p))
under (inf true) nan p q = absurd q
under (inf true) (inf true) p q = tt
under (inf true) (inf false) p q = tt
under (inf true) (fin t n d) p q = tt
under (fin false m e) w p q = absurd (true≢false (sym p))
under (fin true m e) nan p q = absurd q
under (fin true m e) (inf true) p q = absurd (true≢false q)
under (fin true m e) (inf false) p q = tt
under (fin true m e) (fin true n d) p q = absurd (true≢false q)
under (fin true m e) (fin false n d) p q = said true (m * up e * down d) false (n * up d * down e) tt

-- a term that is not negative counts
abbrev part : Bool → ℕ → ℕ
part true a = 0
part false a = a

-- a sum whose terms above zero come to at most p / q is at most p / q rounded
module _ (f : Format) (c p q : ℕ) (C : 0 < c) (Q : 0 < q) where
  fewer : (x y : ℕ) → x ≤ y → y * q ≤ p * c → T (le (round f false x c) (round f false p q))
  fewer x y l h = round_mono f x c p q C Q (le_trans (mul-le-mul_right q l) h)

  minus : (x : ℕ) → T (le (round f true x c) (round f false p q))
  minus x = under (round f true x c) (round f false p q) (round_signed f true x c) (round_signed f false p q)

  sum_under : (s : Bool) (a : ℕ) (t : Bool) (b : ℕ) → (part s a + part t b) * q ≤ p * c → T (le (sum f s a t b c) (round f false p q))
  unfolding sum
  sum_under false a false b h = fewer (a + b) (a + b) (omega arith) h
  sum_under true a true b h = minus (a + b)
  sum_under false a true b h = go (ltb a b)
    where
      go : (u : Bool) → T (le (cond u (round f true (b - a) c) (round f false (a - b) c)) (round f false p q))
      go true = minus (b - a)
      go false = fewer (a - b) (a + 0) (omega arith) h
  sum_under true a false b h = go (ltb a b) (ltb b a) (nltb→le a b) (nltb→le b a)
    where
      go : (u v : Bool) → (T (not u) → b ≤ a) → (T (not v) → a ≤ b) → T (le (cond u (round f false (b - a) c) (round f v (a - b) c)) (round f false p q))
      go true v k l = fewer (b - a) (0 + b) (omega arith) h
      go false true k l = minus (a - b)
      go false false k l = fewer (a - b) (0 + b) (level (l tt)) h
        where
          level : a ≤ b → a - b ≤ 0 + b
          level g = omega arith

-- ---- a float at most 1,000,000,000 less a measure, or and a billionth, is still at most that

top_is : round binary64 false 1000000000 1 ≡ most
unfolding round of_bits
top_is = refl

-- 1,000,000,000 and a billionth round to 1,000,000,000
past_is : round binary64 false (1000000000 * 2 ^ 82 + 4835703278458517) (2 ^ 82) ≡ most
unfolding round of_bits
past_is = refl

less_fits : (X D E : ℕ) → X * 1 ≤ 1000000000 * D → (X * E + 0) * 1 ≤ 1000000000 * (D * E)
less_fits X D E h = let k = mul-le-mul_right E h in omega arith

-- a difference of a float that is at most 1,000,000,000 and one that is not negative
pub less_top : (v w : Float) → T (le v most) → signed false w → T (le (v ⊖ w) most)
unfolding le sub neg add of_bits
less_top nan w h p = absurd h
less_top (inf false) w h p = absurd h
less_top (inf true) nan h p = absurd p
less_top (inf true) (inf true) h p = absurd (true≢false p)
less_top (inf true) (inf false) h p = tt
less_top (inf true) (fin t n d) h p = tt
less_top (fin s m e) nan h p = absurd p
less_top (fin s m e) (inf true) h p = absurd (true≢false p)
less_top (fin s m e) (inf false) h p = tt
less_top (fin s m e) (fin true n d) h p = absurd (true≢false p)
less_top (fin true m e) (fin false n d) h p =
    subst (λ (k : Float). T (le (sum binary64 true (m * up e * down d) true (n * up d * down e) (down e * down d)) k)) top_is
    (sum_under binary64 (down e * down d) 1000000000 1 (mul-pos (down_pos e) (down_pos d)) (zero-lt-suc 0) true (m * up e * down d) true (n * up d * down e)
    (omega arith))
less_top (fin false m e) (fin false n d) h p =
    subst (λ (k : Float). T (le (sum binary64 false (m * up e * down d) true (n * up d * down e) (down e * down d)) k)) top_is
    (sum_under binary64 (down e * down d) 1000000000 1 (mul-pos (down_pos e) (down_pos d)) (zero-lt-suc 0) false (m * up e * down d) true (n * up d * down e)
    (less_fits (m * up e) (down e) (down d) (says false (m * up e * 1) false (1953125 * 2 ^ 9 * down e) h)))

past_fits : (M K E X D : ℕ) → X * 1 ≤ M * D → (X * K + E * 1 * D) * K ≤ (M * K + E) * (D * K)
past_fits M K E X D h = let a = mul-le-mul_right K (mul-le-mul_right K h) in omega arith

-- and E, which is less than half a step there
pub more_top : (v : Float) → T (le v most) → T (le (v ⊕ slack) most)
unfolding le add of_bits
more_top nan h = absurd h
more_top (inf false) h = absurd h
more_top (inf true) h = tt
more_top (fin true m e) h =
    subst (λ (k : Float). T (le (sum binary64 true (m * up e * 2 ^ 82) false (4835703278458517 * 1 * down e) (down e * 2 ^ 82)) k)) past_is
    (sum_under binary64 (down e * 2 ^ 82) (1000000000 * 2 ^ 82 + 4835703278458517) (2 ^ 82) (mul-pos (down_pos e) (pow_pos 82)) (pow_pos 82) true
    (m * up e * 2 ^ 82) false (4835703278458517 * 1 * down e)
    (past_fits 1000000000 (2 ^ 82) 4835703278458517 0 (down e) (omega arith)))
more_top (fin false m e) h =
    subst (λ (k : Float). T (le (sum binary64 false (m * up e * 2 ^ 82) false (4835703278458517 * 1 * down e) (down e * 2 ^ 82)) k)) past_is
    (sum_under binary64 (down e * 2 ^ 82) (1000000000 * 2 ^ 82 + 4835703278458517) (2 ^ 82) (mul-pos (down_pos e) (pow_pos 82)) (pow_pos 82) false
    (m * up e * 2 ^ 82) false (4835703278458517 * 1 * down e)
    (past_fits 1000000000 (2 ^ 82) 4835703278458517 (m * up e) (down e) (says false (m * up e * 1) false (1953125 * 2 ^ 9 * down e) h)))

-- ---- what is past 1,000,000,000 is not within it with a length added

pub far_fits : (M K L X D Z E : ℕ) → M * D ≤ X * 1 → L * 1 * E ≤ Z * K → (M * K + L) * (D * E) ≤ (X * E + Z * D) * K
far_fits M K L X D Z E h k = let a = mul-le-mul_right K (mul-le-mul_right E h) in let b = mul-le-mul_right D k in omega arith

-- 1,000,000,000 and the least length, rounded
pub over_is : le (round binary64 false (1000000000 * 2 ^ 72 + 4722366482869645) (2 ^ 72)) most ≡ false
unfolding le round of_bits
over_is = refl

-- ---- the lower end

-- what is not negative is at least -1,000,000,000
pub low_none : (v : Float) → signed false v → T (le (neg most) v)
unfolding neg of_bits
low_none v p = under (neg most) v refl p

-- ---- a difference by E

units_turned : (f : Format) (q k : ℕ) → units f true q k ≡ neg (units f false q k)
unfolding units neg odd
units_turned f q k = go (ltb (q * 2 ^ k) (2 ^ (low f + suc (emax f)))) q
  where
    go : (b : Bool) (q : ℕ) → cond b (odd (suc (prec f)) true q k (low f)) (inf true) ≡ neg (cond b (odd (suc (prec f)) false q k (low f)) (inf false))
    go true zero = refl
    go true (suc q) = refl
    go false q = refl

round_turned : (f : Format) (a c : ℕ) → round f true a c ≡ neg (round f false a c)
unfolding round
round_turned f a c = units_turned f _ _

neg_low : (v : Float) → signed false v → T (le v most) → T (le (neg most) (neg v))
unfolding le neg of_bits
neg_low nan p h = absurd p
neg_low (inf true) p h = absurd (true≢false p)
neg_low (inf false) p h = absurd h
neg_low (fin true m e) p h = absurd (true≢false p)
neg_low (fin false m e) p h = said true (1953125 * 2 ^ 9 * down e) true (m * up e * 1) (says false (m * up e * 1) false (1953125 * 2 ^ 9 * down e) h)

-- a measure less E
pub low_eps : (v : Float) → signed false v → T (le (neg most) (v ⊖ slack))
unfolding sub neg add sum of_bits
low_eps nan p = absurd p
low_eps (inf true) p = absurd (true≢false p)
low_eps (inf false) p = unfold le in tt
low_eps (fin true m e) p = absurd (true≢false p)
low_eps (fin false m e) p = go (ltb a b)
  where
    a : ℕ
    a = m * up e * 2 ^ 82

    b : ℕ
    b = 4835703278458517 * 1 * down e

    c : ℕ
    c = down e * 2 ^ 82

    C : 0 < c
    C = mul-pos (down_pos e) (pow_pos 82)

    small : (K E D : ℕ) → E ≤ 1000000000 * K → E * 1 * D * 1 ≤ 1000000000 * (D * K)
    small K E D h = let k = mul-le-mul_right D h in omega arith

    go : (u : Bool) → T (le (neg most) (cond u (round binary64 true (b - a) c) (round binary64 false (a - b) c)))
    go true =
        subst (λ (k : Float). T (le (neg most) k)) (sym (round_turned binary64 (b - a) c))
        (neg_low (round binary64 false (b - a) c) (round_signed binary64 false (b - a) c)
        (subst (λ (k : Float). T (le (round binary64 false (b - a) c) k)) top_is
        (fewer binary64 c 1000000000 1 C (zero-lt-suc 0) (b - a) b (omega arith) (small (2 ^ 82) 4835703278458517 (down e) (lit≤ tt)))))
    go false = low_none (round binary64 false (a - b) c) (round_signed binary64 false (a - b) c)

-- ---- a length and a measure are not negative

pub length_signed : (v : Float) → T (le least_length v) → signed false v
unfolding le of_bits
length_signed nan h = absurd h
length_signed (inf true) h = absurd h
length_signed (inf false) h = refl
length_signed (fin false n d) h = refl
length_signed (fin true n d) h =
    let a : 4722366482869645 * 1 * down d + n * up d * 2 ^ 72 ≤ 0 = says false (4722366482869645 * 1 * down d) true (n * up d * 2 ^ 72) h in
    let b = down_pos d in
    absurd (omega arith)

zero_bits : (n : ℕ) (d : ℤ) → n * up d ≡ 0 → to_bits binary64 (fin true n d) ≡ 2 ^ 63
unfolding to_bits size
zero_bits n d e =
    let z : n * up d * 2 ^ 1074 / down d ≡ 0 = ap (λ (k : ℕ). k * 2 ^ 1074 / down d) e ∙ zero-div (down d) in
    ap (λ (k : ℕ). 2 ^ 63 + (size k - 53) * 2 ^ 52 + k / 2 ^ (size k - 53)) z

pub measure_signed : (v : Float) → is_measure v ≡ true → signed false v
unfolding le of_bits
measure_signed nan h = true_false (sym h)
measure_signed (inf true) h = true_false (sym h)
measure_signed (inf false) h = refl
measure_signed (fin false n d) h = refl
measure_signed (fin true n d) h =
    let l = and_left (le none (fin true n d)) _ (and_left (le none (fin true n d) && le (fin true n d) most) _ h) in
    let a : 0 * 1 * down d + n * up d * 1 ≤ 0 = says false (0 * 1 * down d) true (n * up d * 1) (subst T (sym l) tt) in
    let z = zero_bits n d (omega arith) in
    true_false (sym (and_right (le none (fin true n d) && le (fin true n d) most) _ h) ∙ ap not (eq-eqb (to_bits binary64 (fin true n d)) (2 ^ 63) z))
