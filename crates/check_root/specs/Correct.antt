-- The root is the correctly rounded one: `sqrt_of` is what Squares.antt says by squares of whole numbers, for every number above zero that an
-- f64 holds (`sqrt_near`), and no other f64 is that (`sqrt_only`).
use Rattle.std.specs.Prelude.{◌≡◌, refl, ℕ, zero, suc, ◌+◌, ◌-◌, ◌*◌, ◌/◌, ◌%◌, ◌^◌, ◌≤◌, ◌<◌, Bool, true, false, not, T, leb, ltb, eqb, Float}
use Rattle.std.proofs.Common.{sym, ap, ◌∙◌, subst, le_trans, lt_trans, le_antisymm, lt_irrefl, lt_of_lt_of_le, lt_of_mul-lt-mul_right, zero-lt-suc, mul_assoc}
use Rattle.std.proofs.Common.{pow-suc, arith, leb→le, ltb→lt, nltb→le, eqb→eq, T_not, lit<, pow-add}
use Rattle.std.proofs.Math.Nat.{pow-le-pow_right}
use Rattle.std.proofs.Math.Dec.{nleb→lt}
use Rattle.std.specs.Float.{nan, inf, fin, binary64}
use Rattle.std.specs.Float.Ieee.{fits, to_bits, up, down}
use Rattle.std.specs.Float.Ieee.Exact.{HasValue}
use Rattle.std.specs.Float.Ieee.Fits.{eq→eqb}
use Rattle.std.specs.Float.Ieee.Positive.{positive}
use Rattle.check_root.specs.Root.{root, near_root}
use Rattle.check_root.specs.Sqrt.{rounded, sqrt_of, mag}
use Rattle.check_root.specs.Squares.{Near, Rooted, units_of}
use Rattle.check_root.specs.Powers.{quad, even_pair, odd_pair, sq_lt}
use Rattle.check_root.specs.Pattern.{low_pattern, high_pattern}
use Rattle.check_root.specs.Roots.{root_ge, root_lt, near_ge}
use Rattle.check_root.specs.Rounded.{same_value, near_scaled, near_le, rounded_value, sqrt_keeps}
use Rattle.check_root.specs.Cases.{number_mag, fin_under, pattern_above}

neqb→ne : (m n : ℕ) → T (not (eqb m n)) → m ≡ n → ⊥
neqb→ne m n t e = T_not (eqb m n) t (eq→eqb e)

-- n as m * 4 ^ g
record As (lo n : ℕ) : Type 0 where
  m : ℕ
  g : ℕ
  is : m * 4 ^ g ≡ n
  pos : lo ≤ m
  small : m < 2 ^ 54
  from : 510 ≤ g
  to : g < 1560

here : (m g : ℕ) → 2 ^ 52 ≤ m → m < 2 ^ 54 → 510 ≤ g → g < 1560 → As (2 ^ 52) (m * 4 ^ g)
here m g p s f t = record { m = m; g = g; is = refl; pos = p; small = s; from = f; to = t }

norm : (k m g : ℕ) → 2 ^ 52 ≤ m * 4 ^ k → 0 < m → m < 2 ^ 54 → 510 + k ≤ g → g < 1560 → As (2 ^ 52) (m * 4 ^ g)
norm zero m g e p s f t = here m g (omega arith) s (omega arith) t
norm (suc k) m g e p s f t = go (ltb m (2 ^ 52)) (ltb→lt m (2 ^ 52)) (nltb→le m (2 ^ 52)) (norm k (4 * m) (g - 1))
  where
    go : (b : Bool) → (T b → m < 2 ^ 52) → (T (not b) → 2 ^ 52 ≤ m)
        → (2 ^ 52 ≤ 4 * m * 4 ^ k → 0 < 4 * m → 4 * m < 2 ^ 54 → 510 + k ≤ g - 1 → g - 1 < 1560 → As (2 ^ 52) (4 * m * 4 ^ (g - 1))) → As (2 ^ 52) (m * 4 ^ g)
    go false a b r = here m g (b tt) s (omega arith) t
    go true a b r =
        let l = a tt in
        let q : 4 ^ suc k ≡ 4 ^ k * 4 = pow-suc 4 k in
        let e' : 2 ^ 52 ≤ m * (4 ^ k * 4) = rw q at e in
        subst (λ (x : ℕ). As (2 ^ 52) x) (quad m g (omega arith)) (r (omega arith) (omega arith) (omega arith) (omega arith) (omega arith))

-- ---- from a bit pattern

from_pair : (q e n : ℕ) → 0 < q → q < 2 ^ 53 → 0 < e → e < 2047 → q * 2 ^ (e + 1073) ≡ n → As (2 ^ 52) n
from_pair q e n a b c d h = subst (λ (x : ℕ). As (2 ^ 52) x) h (go (eqb (e % 2) 0) (eqb→eq (e % 2) 0) (neqb→ne (e % 2) 0))
  where
    deepest : (m : ℕ) → 0 < m → 2 ^ 52 ≤ m * 4 ^ 26
    deepest m l = omega arith

    go : (b : Bool) → (T b → e % 2 ≡ 0) → (T (not b) → e % 2 ≡ 0 → ⊥) → As (2 ^ 52) (q * 2 ^ (e + 1073))
    go true x y = subst (λ (n : ℕ). As (2 ^ 52) n) (even_pair q e (x tt))
        (norm 26 (2 * q) ((e + 1072) / 2) (deepest (2 * q) (omega arith)) (omega arith) (omega arith) (omega arith) (omega arith))
    go false x y = subst (λ (n : ℕ). As (2 ^ 52) n) (odd_pair q e (y tt)) (norm 26 q ((e + 1073) / 2) (deepest q a) a (omega arith) (omega arith) (omega arith))

from_pattern : (b : ℕ) → 0 < b → b < 2047 * 2 ^ 52 → As (2 ^ 52) (mag b * 2 ^ 1074)
from_pattern b l h = go (eqb (b / 2 ^ 52) 0) (eqb→eq (b / 2 ^ 52) 0) (neqb→ne (b / 2 ^ 52) 0)
  where
    go : (t : Bool) → (T t → b / 2 ^ 52 ≡ 0) → (T (not t) → b / 2 ^ 52 ≡ 0 → ⊥) → As (2 ^ 52) (mag b * 2 ^ 1074)
    go true x y = let z = x tt in from_pair (b % 2 ^ 52) 1 (mag b * 2 ^ 1074) (low b l z) (under b) (lit< tt) (lit< tt) (low_pattern b z)
      where
        low : (b : ℕ) → 0 < b → b / 2 ^ 52 ≡ 0 → 0 < b % 2 ^ 52
        low b l z = omega arith

        under : (b : ℕ) → b % 2 ^ 52 < 2 ^ 53
        under b = omega arith
    go false x y = let z = y tt in from_pair (b % 2 ^ 52 + 2 ^ 52) (b / 2 ^ 52) (mag b * 2 ^ 1074) (omega arith) (under b) (some (b / 2 ^ 52) z) (field b h)
        (high_pattern b z)
      where
        some : (x : ℕ) → (x ≡ 0 → ⊥) → 0 < x
        some x n = omega arith

        under : (b : ℕ) → b % 2 ^ 52 + 2 ^ 52 < 2 ^ 53
        under b = omega arith

        field : (b : ℕ) → b < 2047 * 2 ^ 52 → b / 2 ^ 52 < 2047
        field b h = omega arith

-- ---- the theorem

rooted : (n : ℕ) → As (2 ^ 52) n → Rooted n (rounded binary64 n)
rooted n s = subst (λ (x : ℕ). Rooted x (rounded binary64 x))
    (mul_assoc s.m (4 ^ 26) (4 ^ (s.g - 26)) ∙ ap (λ (x : ℕ). s.m * x) (sym (pow-add 4 26 (s.g - 26)) ∙ ap (λ (x : ℕ). 4 ^ x) (all s.g s.from))
    ∙ s.is) at_t
  where
    all : (g : ℕ) → 510 ≤ g → 26 + (g - 26) ≡ g
    all g a = omega arith

    pred : (r k : ℕ) → 2 ^ 52 ≤ r → r ≤ k → k ≡ k - 1 + 1
    pred r k a b = omega arith

    small : (k : ℕ) → k ≤ 2 ^ 53 → k - 1 < 2 ^ 53
    small k h = omega arith

    lowest : (g : ℕ) → 510 ≤ g → 0 < g - 26
    lowest g h = omega arith

    highest : (g : ℕ) → g < 1560 → g - 26 ≤ 1533
    highest g h = omega arith

    square_low : (m : ℕ) → 2 ^ 52 ≤ m → 2 ^ 52 * 2 ^ 52 ≤ m * 4 ^ 26
    square_low m h = omega arith

    square_high : (m : ℕ) → m < 2 ^ 54 → m * 4 ^ 26 < 2 ^ 53 * 2 ^ 53
    square_high m h = omega arith

    at_t : Rooted (s.m * 4 ^ 26 * 4 ^ (s.g - 26)) (rounded binary64 (s.m * 4 ^ 26 * 4 ^ (s.g - 26)))
    at_t =
        let t : ℕ = s.m * 4 ^ 26 in
        let e : ℕ = s.g - 26 in
        let l = root_ge t (2 ^ 52) (square_low s.m s.pos) in
        let h = root_lt t (2 ^ 53) (square_high s.m s.small) in
        let q = near_scaled t e (near_root t - 1) l h (pred (root t) (near_root t) l (near_ge t).0) in
        record {
          p = near_root t - 1;
          d = e;
          near = q;
          value = rounded_value (t * 4 ^ e) e (near_root t - 1) (lowest s.g s.from) (highest s.g s.to) (small (near_root t) (near_le t h)) q;
        }

pub sqrt_near : (x : Float) → T (positive x) → T (fits binary64 x) → Rooted (units_of x) (sqrt_of binary64 x)
unfolding sqrt_of units_of
sqrt_near nan p f = absurd p
sqrt_near (inf s) p f = absurd p
sqrt_near (fin true m e) p f = absurd p
sqrt_near (fin false zero e) p f = absurd p
sqrt_near (fin false (suc m) e) p f =
    rooted (suc m * up e * 4 ^ 1074 / down e)
    (subst (λ (x : ℕ). As (2 ^ 52) x) (sym (number_mag m e f)) (from_pattern (to_bits binary64 (fin false (suc m) e)) (pattern_above m e f) (fin_under m e f)))

-- ---- and no other float does

far : (d e : ℕ) → e < d → 2 ^ 106 * 4 ^ e ≤ 2 ^ 104 * 4 ^ d
far d e h =
    let a : 4 ^ (e + 1) ≤ 4 ^ d = pow-le-pow_right (zero-lt-suc 3) {i = e + 1} {j = d} (omega arith) in
    let b : 4 ^ (e + 1) ≡ 4 ^ e * 4 = pow-add 4 e 1 in
    let c : 4 ^ e * 4 ≤ 4 ^ d = subst (λ (x : ℕ). x ≤ 4 ^ d) b a in
    omega arith

exponents : (n p q d e : ℕ) → Near n p d → Near n q e → d ≤ e
exponents n p q d e a b = go (leb d e) (leb→le d e) (nleb→lt d e)
  where
    go : (t : Bool) → (T t → d ≤ e) → (T (not t) → e < d) → d ≤ e
    go true x y = x tt
    go false x y = absurd (lt_irrefl n (lt_of_lt_of_le b.under (le_trans (far d e (y tt)) a.from)))

digits : (n p q d : ℕ) → Near n p d → Near n q d → p ≤ q
digits n p q d a b =
    let h : (2 * p + 1) * (2 * p + 1) < (2 * q + 3) * (2 * q + 3) = lt_of_mul-lt-mul_right (4 ^ d) (lt_trans a.left b.right) in
    let l = sq_lt (2 * p + 1) (2 * q + 3) h in
    omega arith

-- so `Near` leaves no choice
same_near : (n p q d e : ℕ) → Near n p d → Near n q e → (p + 1) * 2 ^ d ≡ (q + 1) * 2 ^ e
same_near n p q d e a b =
    let x : d ≡ e = le_antisymm (exponents n p q d e a b) (exponents n q p e d b a) in
    let c : Near n q d = subst (λ (k : ℕ). Near n q k) (sym x) b in
    let y : p ≡ q = le_antisymm (digits n p q d a c) (digits n q p d c a) in
    cc

pub sqrt_only : (x r : Float) → T (positive x) → T (fits binary64 x) → T (fits binary64 r) → Rooted (units_of x) r → r ≡ sqrt_of binary64 x
sqrt_only x r P F R h =
    let s = sqrt_near x P F in
    same_value r (sqrt_of binary64 x) ((h.p + 1) * 2 ^ h.d) R (sqrt_keeps x F) h.value
    (subst (λ (a : ℕ). HasValue (sqrt_of binary64 x) false a (2 ^ 1074)) (same_near (units_of x) s.p h.p s.d h.d s.near h.near) s.value)
