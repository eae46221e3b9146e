-- Sums: the same either way round for every float, and no smaller than either term where none is negative.
use Rattle.std.specs.Prelude.{◌≡◌, refl, ℕ, ◌+◌, ◌-◌, ◌*◌, ◌≤◌, ◌<◌, Bool, not, cond, T, ltb, Float}
use Rattle.std.proofs.Common.{sym, ◌∙◌, subst, add_comm, mul_comm, mul-pos, arith, true≢false, ltb→lt, nltb→le}
use Rattle.std.proofs.Math.Path.{ap}
use Rattle.std.proofs.Math.Bool.{true, false}
use Rattle.std.specs.Float.{nan, inf, fin, Format}
use Rattle.std.specs.Float.Ieee.{up, down, round, sum, add, le, fits}
use Rattle.std.specs.Float.Ieee.Fits.{down_pos}
use Rattle.std.specs.Float.Ieee.Order.{round_mono}
use Rattle.floats.specs.Order.{signed, round_signed}
use Rattle.floats.specs.Unique.{round_own}

-- a and b of unlike signs
swap : (f : Format) (a b c : ℕ) → sum f false a true b c ≡ sum f true b false a c
unfolding sum
swap f a b c = go (ltb a b) (ltb b a) (ltb→lt a b) (ltb→lt b a) (nltb→le a b) (nltb→le b a)
  where
    go : (p q : Bool) → (T p → a < b) → (T q → b < a) → (T (not p) → b ≤ a) → (T (not q) → a ≤ b)
        → cond p (round f true (b - a) c) (round f false (a - b) c) ≡ cond q (round f false (a - b) c) (round f p (b - a) c)
    go true true h k n m = absurd (clash (h tt) (k tt))
      where
        clash : a < b → b < a → ⊥
        clash x y = omega arith
    go true false h k n m = refl
    go false true h k n m = refl
    go false false h k n m = ap (λ (z : ℕ). round f false z c) (level (n tt) (m tt))
      where
        level : b ≤ a → a ≤ b → a - b ≡ b - a
        level x y = omega arith

pub sum_comm : (f : Format) (s : Bool) (a : ℕ) (t : Bool) (b c : ℕ) → sum f s a t b c ≡ sum f t b s a c
sum_comm f false a false b c = unfold sum in ap (λ (z : ℕ). round f false z c) (add_comm a b)
sum_comm f false a true b c = swap f a b c
sum_comm f true a false b c = sym (swap f b a c)
sum_comm f true a true b c = unfold sum in ap (λ (z : ℕ). round f true z c) (add_comm a b)

pub add_commutes : (f : Format) (x y : Float) → add f x y ≡ add f y x
unfolding add
add_commutes f nan nan = refl
add_commutes f nan (inf t) = refl
add_commutes f nan (fin t n g) = refl
add_commutes f (inf s) nan = refl
add_commutes f (inf true) (inf true) = refl
add_commutes f (inf true) (inf false) = refl
add_commutes f (inf false) (inf true) = refl
add_commutes f (inf false) (inf false) = refl
add_commutes f (inf s) (fin t n g) = refl
add_commutes f (fin s m e) nan = refl
add_commutes f (fin s m e) (inf t) = refl
add_commutes f (fin s m e) (fin t n g) =
    sum_comm f s (m * up e * down g) t (n * up g * down e) (down e * down g) ∙ ap (λ (z : ℕ). sum f t (n * up g * down e) s (m * up e * down g) z)
    (mul_comm (down e) (down g))

-- ---- terms that are not negative; an infinity may be among them, and the sum may overflow

pub add_signed : (f : Format) (x y : Float) → signed false x → signed false y → signed false (add f x y)
unfolding add
add_signed f nan y p q = absurd p
add_signed f (inf true) y p q = absurd (true≢false p)
add_signed f (inf false) nan p q = absurd q
add_signed f (inf false) (inf true) p q = absurd (true≢false q)
add_signed f (inf false) (inf false) p q = refl
add_signed f (inf false) (fin t n g) p q = refl
add_signed f (fin s m e) nan p q = absurd q
add_signed f (fin s m e) (inf t) p q = q
add_signed f (fin true m e) (fin t n g) p q = absurd (true≢false p)
add_signed f (fin false m e) (fin true n g) p q = absurd (true≢false q)
add_signed f (fin false m e) (fin false n g) p q = round_signed f false (m * up e * down g + n * up g * down e) (down e * down g)

-- X / P ≤ X / P + Z / R
more : (X P Z R : ℕ) → X * (P * R) ≤ (X * R + Z * P) * P
more X P Z R = omega arith

pub add_grows : (f : Format) (x z : Float) → T (fits f x) → signed false x → signed false z → T (le x (add f x z))
unfolding add
add_grows f nan z w p r = absurd p
add_grows f (inf true) z w p r = absurd (true≢false p)
add_grows f (inf false) nan w p r = absurd r
add_grows f (inf false) (inf true) w p r = absurd (true≢false r)
add_grows f (inf false) (inf false) w p r = unfold le in tt
add_grows f (inf false) (fin u o i) w p r = unfold le in tt
add_grows f (fin s m e) nan w p r = absurd r
add_grows f (fin s m e) (inf true) w p r = absurd (true≢false r)
add_grows f (fin s m e) (inf false) w p r = unfold le in tt
add_grows f (fin true m e) (fin u o i) w p r = absurd (true≢false p)
add_grows f (fin false m e) (fin true o i) w p r = absurd (true≢false r)
add_grows f (fin false m e) (fin false o i) w p r =
    subst (λ (x : Float). T (le x (round f false (m * up e * down i + o * up i * down e) (down e * down i)))) (round_own f false m e w)
    (round_mono f (m * up e) (down e) (m * up e * down i + o * up i * down e) (down e * down i) (down_pos e) (mul-pos (down_pos e) (down_pos i))
    (more (m * up e) (down e) (o * up i) (down i)))
