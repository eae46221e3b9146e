-- The larger of two floats, turned round: the same but for the sign of a zero.
use Rattle.std.specs.Prelude.{◌≡◌, ◌⊎◌, ℕ, zero, suc, ◌+◌, ◌*◌, ◌≤◌, ◌<◌, Bool, true, false, not, ◌&&◌, cond, ℤ, pos, T, ltb, Float}
use Rattle.std.proofs.Math.Path.{refl}
use Rattle.std.proofs.Common.{sym, ap, ◌∙◌, inl, inr, zero-le, le_antisymm, not-le_of_lt, mul-pos, zero-lt-suc, zero-add, arith, ltb→lt, lt→ltb, le-ltb}
use Rattle.std.specs.Float.{nan, inf, fin, Format}
use Rattle.std.specs.Float.Ieee.{of_bits, up, down, below, lt, le, is_nan, fits}
use Rattle.std.specs.Float.Ieee.Positive.{first_pos}
use Rattle.std.specs.Float.Ieee.Fits.{up_pos, down_pos}
use Rattle.floats.specs.Ops.{larger, none}
use Rattle.floats.specs.Compare.{says, same_test}
use Rattle.floats.specs.Order.{lt→le, nlt→le}
use Rattle.floats.specs.Unique.{cross_unique}

-- a zero of either sign
abbrev pub is_zero : Float → Type 0
is_zero nan = ⊥
is_zero (inf s) = ⊥
is_zero (fin s m e) = m ≡ 0

no_size : (m u d : ℕ) → 0 < u → 0 < d → m * u * d ≤ 0 → m ≡ 0
no_size zero u d U D h = refl
no_size (suc m) u d U D h = absurd (not-le_of_lt (mul-pos (mul-pos (zero-lt-suc m) U) D) h)

-- each at most the other
pub le_both : (f : Format) (v w : Float) → T (fits f v) → T (fits f w) → T (le v w) → T (le w v) → (v ≡ w) ⊎ (is_zero v × is_zero w)
unfolding le
le_both f nan w p q h k = absurd h
le_both f (inf s) nan p q h k = absurd h
le_both f (inf true) (inf true) p q h k = inl refl
le_both f (inf true) (inf false) p q h k = absurd k
le_both f (inf false) (inf true) p q h k = absurd h
le_both f (inf false) (inf false) p q h k = inl refl
le_both f (inf true) (fin t n d) p q h k = absurd k
le_both f (inf false) (fin t n d) p q h k = absurd h
le_both f (fin s m e) nan p q h k = absurd h
le_both f (fin s m e) (inf true) p q h k = absurd h
le_both f (fin s m e) (inf false) p q h k = absurd k
le_both f (fin false m e) (fin false n d) p q h k =
    inl (cross_unique f false m e n d p q
    (le_antisymm (says false (m * up e * down d) false (n * up d * down e) h) (says false (n * up d * down e) false (m * up e * down d) k)))
le_both f (fin true m e) (fin true n d) p q h k =
    inl (cross_unique f true m e n d p q
    (le_antisymm (says true (n * up d * down e) true (m * up e * down d) k) (says true (m * up e * down d) true (n * up d * down e) h)))
le_both f (fin false m e) (fin true n d) p q h k = let z = says false (m * up e * down d) true (n * up d * down e) h in inr (zeros m e n d z)
  where
    zeros : (m : ℕ) (e : ℤ) (n : ℕ) (d : ℤ) → m * up e * down d + n * up d * down e ≤ 0 → (m ≡ 0) × (n ≡ 0)
    zeros m e n d z = (no_size m (up e) (down d) (up_pos e) (down_pos d) (omega arith), no_size n (up d) (down e) (up_pos d) (down_pos e) (omega arith))
le_both f (fin true m e) (fin false n d) p q h k = let z = says false (n * up d * down e) true (m * up e * down d) k in inr (zeros m e n d z)
  where
    zeros : (m : ℕ) (e : ℤ) (n : ℕ) (d : ℤ) → n * up d * down e + m * up e * down d ≤ 0 → (m ≡ 0) × (n ≡ 0)
    zeros m e n d z = (no_size m (up e) (down d) (up_pos e) (down_pos d) (omega arith), no_size n (up d) (down e) (up_pos d) (down_pos e) (omega arith))

pub larger_turned : (f : Format) (v w : Float) → T (fits f v) → T (fits f w) → T (not (is_nan v)) → T (not (is_nan w))
    → (larger v w ≡ larger w v) ⊎ (is_zero (larger v w) × is_zero (larger w v))
larger_turned f v w p q n k = go (lt v w) (lt w v) (lt→le v w) (lt→le w v) (nlt→le v w n k) (nlt→le w v k n)
  where
    go : (s t : Bool) → (T s → T (le v w)) → (T t → T (le w v)) → (T (not s) → T (le w v)) → (T (not t) → T (le v w))
        → (cond s w v ≡ cond t v w) ⊎ (is_zero (cond s w v) × is_zero (cond t v w))
    go true true f1 f2 g1 g2 = le_both f w v q p (f2 tt) (f1 tt)
    go true false f1 f2 g1 g2 = inl refl
    go false true f1 f2 g1 g2 = inl refl
    go false false f1 f2 g1 g2 = le_both f v w p q (g2 tt) (g1 tt)

-- ---- zeros of either sign compare alike

zero_below : (s u : Bool) (a o k : ℕ) → a ≡ 0 → 0 < k → below s a u (o * k) ≡ (not u && ltb 0 o)
zero_below s u a o k A K = ap (λ (n : ℕ). below s n u (o * k)) A ∙ go s u
  where
    scaled : ltb 0 (o * k) ≡ ltb 0 o
    scaled = same_test (ltb 0 (o * k)) (ltb 0 o) (λ t. lt→ltb 0 o (first_pos o k (ltb→lt 0 (o * k) t))) (λ t. lt→ltb 0 (o * k) (mul-pos (ltb→lt 0 o t) K))

    go : (s u : Bool) → below s 0 u (o * k) ≡ (not u && ltb 0 o)
    go false false = scaled
    go false true = refl
    go true false = ap (ltb 0) (zero-add (o * k)) ∙ scaled
    go true true = le-ltb (o * k) 0 zero-le

zero_lt_at : (s : Bool) (m : ℕ) (e : ℤ) (u : Bool) (o : ℕ) (i : ℤ) → m ≡ 0 → lt (fin s m e) (fin u o i) ≡ (not u && ltb 0 (o * up i))
unfolding lt
zero_lt_at s m e u o i p = zero_below s u (m * up e * down i) (o * up i) (down e) (rw p (omega arith)) (down_pos e)

pub zero_lt : (v w y : Float) → is_zero v → is_zero w → lt v y ≡ lt w y
zero_lt nan w y p q = absurd p
zero_lt (inf s) w y p q = absurd p
zero_lt (fin s m e) nan y p q = absurd q
zero_lt (fin s m e) (inf t) y p q = absurd q
zero_lt (fin s m e) (fin t n d) nan p q = unfold lt in refl
zero_lt (fin s m e) (fin t n d) (inf u) p q = unfold lt in refl
zero_lt (fin s m e) (fin t n d) (fin u o i) p q = zero_lt_at s m e u o i p ∙ sym (zero_lt_at t n d u o i q)

-- and none is above zero
pub none_lt_zero : (v : Float) → is_zero v → lt none v ≡ false
unfolding of_bits
none_lt_zero nan p = absurd p
none_lt_zero (inf s) p = absurd p
none_lt_zero (fin s m e) p = zero_lt_at false 0 (pos 0) s m e refl ∙ ap (λ (n : ℕ). not s && ltb 0 (n * up e)) p ∙ gone (not s) (ltb 0 (0 * up e))
    (le-ltb 0 (0 * up e) (omega arith))
  where
    gone : (a b : Bool) → b ≡ false → (a && b) ≡ false
    gone true b h = h
    gone false b h = refl
