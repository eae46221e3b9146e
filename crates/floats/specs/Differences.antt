-- Sums and differences of finite floats, of any signs: how they move with their terms. The result may overflow to an infinity.
use Rattle.std.specs.Prelude.{◌≡◌, refl, ℕ, zero, suc, ◌+◌, ◌-◌, ◌*◌, ◌^◌, ◌≤◌, ◌<◌, Bool, not, cond, T, ltb, Float}
use Rattle.std.proofs.Common.{ap, subst, le_of_mul-le-mul_right, mul-le-mul_right, mul-pos, zero-lt-suc, arith, ltb→lt, nltb→le}
use Rattle.std.proofs.Math.Bool.{true, false}
use Rattle.std.specs.Float.{nan, inf, fin, Format, binary32, binary64}
use Rattle.std.specs.Float.Ieee.{prec, emax, low, up, down, odd, units, round, neg, sum, add, sub, le, of_bits}
use Rattle.std.specs.Float.Ieee.Fits.{down_pos}
use Rattle.std.specs.Float.Ieee.Order.{round_mono}
use Rattle.std.specs.Float.Ieee.Scale.{finite}
use Rattle.floats.specs.Ops.{none}
use Rattle.floats.specs.Compare.{Le, says, said}
use Rattle.floats.specs.Order.{le_chain, round_signed, none_le}
use Rattle.floats.specs.Sums.{sum_comm, add_commutes}

-- ---- a negation turns the order round, and goes through `round`

turned : (s : Bool) (a : ℕ) (t : Bool) (b : ℕ) → Le s a t b → Le (not t) b (not s) a
turned false a false b h = h
turned false a true b h = omega arith
turned true a false b h = tt
turned true a true b h = h

neg_le : (x y : Float) → T (le x y) → T (le (neg y) (neg x))
unfolding le neg
neg_le nan y h = absurd h
neg_le (inf s) nan h = absurd h
neg_le (inf true) (inf true) h = tt
neg_le (inf true) (inf false) h = tt
neg_le (inf false) (inf true) h = absurd h
neg_le (inf false) (inf false) h = tt
neg_le (inf true) (fin t n g) h = tt
neg_le (inf false) (fin t n g) h = absurd h
neg_le (fin s m e) nan h = absurd h
neg_le (fin s m e) (inf true) h = absurd h
neg_le (fin s m e) (inf false) h = tt
neg_le (fin s m e) (fin t n g) h =
    let x = m * up e * down g in
    let y = n * up g * down e in
    said (not t) y (not s) x (turned s x t y (says s x t y h))

units_neg : (f : Format) (q k : ℕ) → units f true q k ≡ neg (units f false q k)
unfolding units odd neg
units_neg f q k = go (ltb (q * 2 ^ k) (2 ^ (low f + suc (emax f)))) q
  where
    go : (b : Bool) (q : ℕ) → cond b (odd (suc (prec f)) true q k (low f)) (inf true) ≡ neg (cond b (odd (suc (prec f)) false q k (low f)) (inf false))
    go true zero = refl
    go true (suc q) = refl
    go false q = refl

round_neg : (f : Format) (a c : ℕ) → round f true a c ≡ neg (round f false a c)
unfolding round
round_neg f a c = units_neg f _ _

-- ---- `round` keeps the order of fractions of any sign

round_none : (f : Format) (a c : ℕ) → 0 < c → a ≤ 0 → T (le (round f false a c) none)
unfolding round of_bits
round_none binary32 a c C h = round_mono binary32 a c 0 1 C (zero-lt-suc 0) (omega arith)
round_none binary64 a c C h = round_mono binary64 a c 0 1 C (zero-lt-suc 0) (omega arith)

-- through +0 and -0, each at most the other
down_across : (x y : Float) → T (le none x) → T (le none y) → T (le (neg x) y)
down_across x y p q = le_chain (neg x) none y (le_chain (neg x) (neg none) none (neg_le none x p) (unfold le neg of_bits in tt)) q

up_across : (x y : Float) → T (le x none) → T (le y none) → T (le x (neg y))
up_across x y p q = le_chain x none (neg y) p (le_chain none (neg none) (neg y) (unfold le neg of_bits in tt) (neg_le y none q))

-- ±r is p - n
abbrev Is : Bool → ℕ → ℕ → ℕ → Type 0
Is false r p n = p ≡ n + r
Is true r p n = n ≡ p + r

-- ±r / c ≤ ±k / d, as (p - n) / c ≤ (q - m) / d
round_le : (f : Format) (s : Bool) (r p n c : ℕ) (t : Bool) (k q m d : ℕ) → 0 < c → 0 < d → Is s r p n → Is t k q m
    → p * d + m * c ≤ q * c + n * d → T (le (round f s r c) (round f t k d))
round_le f false r p n c false k q m d C D x y h = round_mono f r c k d C D (omega (arith, ap (λ (z : ℕ). z * d) x, ap (λ (z : ℕ). z * c) y))
round_le f false r p n c true k q m d C D x y h =
    let l : r * d + k * c ≤ 0 = omega (arith, ap (λ (z : ℕ). z * d) x, ap (λ (z : ℕ). z * c) y) in
    let R = round_none f r c C (le_of_mul-le-mul_right {k = d} (omega arith) D) in
    rw round_neg (up_across (round f false r c) (round f false k d) R (round_none f k d D (le_of_mul-le-mul_right {k = c} (omega arith) C)))
round_le f true r p n c false k q m d C D x y h =
    rw round_neg (down_across (round f false r c) (round f false k d) (none_le _ (round_signed f false r c)) (none_le _ (round_signed f false k d)))
round_le f true r p n c true k q m d C D x y h =
    rw (round_neg f r c, round_neg f k d) (neg_le (round f false k d) (round f false r c)
    (round_mono f k d r c D C (omega (arith, ap (λ (z : ℕ). z * d) x, ap (λ (z : ℕ). z * c) y))))

-- ---- a sum is `round` of ±a ± b, which is the sum of the terms above zero less that of the terms below

abbrev above : Bool → ℕ → Bool → ℕ → ℕ
above false a false b = a + b
above false a true b = a
above true a false b = b
above true a true b = 0

diff_is : (f : Format) (a b c : ℕ) (P : Float → Type 0) → ((s : Bool) (r : ℕ) → Is s r a b → P (round f s r c)) → P (sum f false a true b c)
unfolding sum
diff_is f a b c P k = go (ltb a b) (ltb→lt a b) (nltb→le a b)
  where
    go : (t : Bool) → (T t → a < b) → (T (not t) → b ≤ a) → P (cond t (round f true (b - a) c) (round f false (a - b) c))
    go true l g = let h = l tt in k true (b - a) (omega arith)
    go false l g = let h = g tt in k false (a - b) (omega arith)

sum_is : (f : Format) (s : Bool) (a : ℕ) (t : Bool) (b c : ℕ) (P : Float → Type 0)
    → ((u : Bool) (r : ℕ) → Is u r (above s a t b) (above (not s) a (not t) b) → P (round f u r c)) → P (sum f s a t b c)
sum_is f false a false b c P k = unfold sum in k false (a + b) (omega arith)
sum_is f false a true b c P k = diff_is f a b c P k
sum_is f true a false b c P k = subst P (sum_comm f false b true a c) (diff_is f b a c P k)
sum_is f true a true b c P k = unfold sum in k true (a + b) (omega arith)

-- X / P + Z / R ≤ Y / Q + Z / R for X / P ≤ Y / Q, with signs
grow : (s t u : Bool) (X P Y Q Z R : ℕ) → Le s (X * Q) t (Y * P)
    → above s (X * R) u (Z * P) * (Q * R) + above (not t) (Y * R) (not u) (Z * Q) * (P * R)
    ≤ above t (Y * R) u (Z * Q) * (P * R) + above (not s) (X * R) (not u) (Z * P) * (Q * R)
grow false false false X P Y Q Z R h = omega (arith, mul-le-mul_right (R * R) h)
grow false false true X P Y Q Z R h = omega (arith, mul-le-mul_right (R * R) h)
grow false true false X P Y Q Z R h = omega (arith, mul-le-mul_right (R * R) h)
grow false true true X P Y Q Z R h = omega (arith, mul-le-mul_right (R * R) h)
grow true false false X P Y Q Z R h = omega arith
grow true false true X P Y Q Z R h = omega arith
grow true true false X P Y Q Z R h = omega (arith, mul-le-mul_right (R * R) h)
grow true true true X P Y Q Z R h = omega (arith, mul-le-mul_right (R * R) h)

pub add_mono : (f : Format) (a b c : Float) → T (finite a) → T (finite b) → T (finite c) → T (le a b) → T (le (add f a c) (add f b c))
unfolding add
add_mono f nan b c p q r h = absurd p
add_mono f (inf s) b c p q r h = absurd p
add_mono f (fin s m e) nan c p q r h = absurd q
add_mono f (fin s m e) (inf t) c p q r h = absurd q
add_mono f (fin s m e) (fin t n g) nan p q r h = absurd r
add_mono f (fin s m e) (fin t n g) (inf u) p q r h = absurd r
add_mono f (fin s m e) (fin t n g) (fin u o i) p q r h =
    let a = m * up e in
    let b = n * up g in
    let c = o * up i in
    let j = down e * down i in
    let k = down g * down i in
    sum_is f s (a * down i) u (c * down e) j (λ (x : Float). T (le x (sum f t (b * down i) u (c * down g) k)))
    (λ v r x. sum_is f t (b * down i) u (c * down g) k (λ (y : Float). T (le (round f v r j) y))
    (λ w l y. round_le f v r _ _ j w l _ _ k (mul-pos (down_pos e) (down_pos i)) (mul-pos (down_pos g) (down_pos i)) x y
    (grow s t u a (down e) b (down g) c (down i) (says s (a * down g) t (b * down e) (unfold le in h)))))

-- ---- a rounded difference does not fall as its first term rises, and does not rise as its second does

neg_finite : (x : Float) → T (finite x) → T (finite (neg x))
unfolding neg
neg_finite nan p = p
neg_finite (inf s) p = p
neg_finite (fin s m e) p = tt

pub sub_mono : (f : Format) (a b c : Float) → T (finite a) → T (finite b) → T (finite c) → T (le a b) → T (le (sub f a c) (sub f b c))
unfolding sub
sub_mono f a b c p q r h = add_mono f a b (neg c) p q (neg_finite c r) h

pub sub_anti : (f : Format) (a b c : Float) → T (finite a) → T (finite b) → T (finite c) → T (le a b) → T (le (sub f c b) (sub f c a))
unfolding sub
sub_anti f a b c p q r h =
    rw (add_commutes f c (neg b), add_commutes f c (neg a)) (add_mono f (neg b) (neg a) c (neg_finite b q) (neg_finite a p) r (neg_le a b h))
