-- Whole numbers up to 2 ^ 53 as floats: a sum of them is that of the numbers, so it does not turn on their order.
use Rattle.std.specs.Prelude.{◌≡◌, refl, ℕ, ◌+◌, ◌*◌, ◌^◌, ◌≤◌, ◌<◌, Bool, false, pos, T, Float}
use Rattle.std.proofs.Common.{sym, ap, ◌∙◌, subst, mul-one, mul-pos, le_of_mul-le-mul_right, zero-lt-suc, not-le_of_lt, lt_of_not-le, arith}
use Rattle.std.specs.Float.{nan, inf, fin, Format, binary64}
use Rattle.std.specs.Float.Ieee.{of_bits, up, down, round, sum, add, le, of_int}
use Rattle.std.specs.Float.Ieee.Fits.{down_pos}
use Rattle.std.specs.Float.Ieee.Exact.{HasValue}
use Rattle.std.specs.Float.Ieee.Scale.{round_same}
use Rattle.std.specs.Float.Ieee.Back.{round_whole}
use Rattle.std.specs.Float.Ieee.Order.{round_mono}
use Rattle.floats.specs.Ops.{◌⊕◌, none}
use Rattle.floats.specs.Compare.{says}
use Rattle.floats.specs.Order.{le_chain}

-- the whole number n as a float, rounded where it is over 2 ^ 53
abbrev pub whole : ℕ → Float
whole n = of_int binary64 (pos n)

-- the float is a whole number, and not negative
abbrev pub Whole : Float → Type 0
Whole v = (n : ℕ) × (v ≡ whole n)

-- up to here each whole number is a float
abbrev pub exact : ℕ
exact = 2 ^ 53

pub none_whole : none ≡ whole 0
unfolding of_bits of_int
none_whole = refl

whole_value : (n : ℕ) → n ≤ exact → HasValue (whole n) false n 1
unfolding of_int
whole_value n h = round_whole binary64 false n h

-- ---- sums

add_value : (f : Format) (v w : Float) (a b : ℕ) → HasValue v false a 1 → HasValue w false b 1 → add f v w ≡ round f false (a + b) 1
unfolding add sum
add_value f nan w a b p q = absurd p
add_value f (inf s) w a b p q = absurd p
add_value f (fin s m e) nan a b p q = absurd q
add_value f (fin s m e) (inf t) a b p q = absurd q
add_value f (fin s m e) (fin t n d) a b p q =
    ap (λ (u : Bool). sum f u (m * up e * down d) t (n * up d * down e) (down e * down d)) p.0
    ∙ ap (λ (u : Bool). sum f false (m * up e * down d) u (n * up d * down e) (down e * down d)) q.0
    ∙ round_same f false (m * up e * down d + n * up d * down e) (down e * down d) (a + b) 1 (mul-pos (down_pos e) (down_pos d)) (zero-lt-suc 0)
    (over (m * up e) (down e) (n * up d) (down d) (sym (mul-one (m * up e)) ∙ p.1) (sym (mul-one (n * up d)) ∙ q.1))
  where
    over : (x u y v : ℕ) → x ≡ a * u → y ≡ b * v → (x * v + y * u) * 1 ≡ (a + b) * (u * v)
    over x u y v h k = rw (h, k) (spread u v)
      where
        spread : (u v : ℕ) → (a * u * v + b * v * u) * 1 ≡ (a + b) * (u * v)
        spread u v = omega arith

pub whole_add : (a b : ℕ) → a ≤ exact → b ≤ exact → whole a ⊕ whole b ≡ whole (a + b)
unfolding of_int
whole_add a b h k = add_value binary64 (whole a) (whole b) a b (whole_value a h) (whole_value b k)

-- ---- the order

le_value : (v w : Float) (a b : ℕ) → HasValue v false a 1 → HasValue w false b 1 → T (le v w) → a ≤ b
unfolding le
le_value nan w a b p q h = absurd p
le_value (inf s) w a b p q h = absurd p
le_value (fin s m e) nan a b p q h = absurd q
le_value (fin s m e) (inf t) a b p q h = absurd q
le_value (fin s m e) (fin t n d) a b p q h =
    over (m * up e) (down e) (n * up d) (down d) (down_pos e) (down_pos d) (sym (mul-one (m * up e)) ∙ p.1) (sym (mul-one (n * up d)) ∙ q.1)
    (says false (m * up e * down d) false (n * up d * down e)
    (subst (λ (u : Bool). T (le (fin false m e) (fin u n d))) q.0 (subst (λ (u : Bool). T (le (fin u m e) (fin t n d))) p.0 h)))
  where
    over : (x u y v : ℕ) → 0 < u → 0 < v → x ≡ a * u → y ≡ b * v → x * v ≤ y * u → a ≤ b
    over x u y v U W h k l = le_of_mul-le-mul_right (cleared (rw (h, k) at l)) (mul-pos U W)
      where
        cleared : a * u * v ≤ b * v * u → a * (u * v) ≤ b * (u * v)
        cleared l = omega arith

-- a whole number that is at most b as a float is at most b: one over 2 ^ 53 is not below it, rounded as it may be
pub whole_le : (n b : ℕ) → b < exact → T (le (whole n) (whole b)) → n ≤ b
unfolding of_int
whole_le n b h k = le_value (whole n) (whole b) n b (whole_value n small) (whole_value b (omega arith)) k
  where
    over : exact ≤ n → exact ≤ b
    over l =
        le_value (whole exact) (whole b) exact b (whole_value exact (omega arith)) (whole_value b (omega arith))
        (le_chain (whole exact) (whole n) (whole b) (round_mono binary64 exact 1 n 1 (zero-lt-suc 0) (zero-lt-suc 0) (omega arith)) k)

    small : n ≤ exact
    small = omega (arith, lt_of_not-le (λ (l : exact ≤ n). not-le_of_lt h (over l)))
