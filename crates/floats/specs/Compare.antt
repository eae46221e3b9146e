-- Numbers with a sign, ±a against ±b: `below` and `level`, by which lib.Ieee compares two finite floats over a common denominator.
use Rattle.std.specs.Prelude.{◌≡◌, refl, ℕ, ◌+◌, ◌*◌, ◌≤◌, ◌<◌, Bool, true, false, not, ◌&&◌, ◌||◌, T, leb, ltb, eqb}
use Rattle.std.proofs.Common.{sym, ap, ◌∙◌, subst, le_trans, le_of_eq, mul_right_comm, mul-le-mul_right, le_of_mul-le-mul_right, add-mul, zero-mul, arith}
use Rattle.std.proofs.Common.{lt→ltb, ltb→lt, nltb→le, leb→le, le→leb, eqb→eq}
use Rattle.std.proofs.Math.Dec.{nleb→lt}
use Rattle.std.proofs.Math.Arith.{lt→nleb}
use Rattle.std.specs.Float.Ieee.{below, level}
use Rattle.std.specs.Float.Ieee.Fits.{eq→eqb, and_i, and_l, and_r}
use Rattle.std.specs.Float.Ieee.Bits.{is_true}

-- two tests that pass together are equal
pub same_test : (p q : Bool) → (T p → T q) → (T q → T p) → p ≡ q
same_test true true f g = refl
same_test true false f g = absurd (f tt)
same_test false true f g = absurd (g tt)
same_test false false f g = refl

-- ---- how the tests on numbers stand to each other

pub leb_split : (a b : ℕ) → (ltb a b || (eqb a b && true)) ≡ leb a b
leb_split a b = same_test (ltb a b || (eqb a b && true)) (leb a b) (there (ltb a b) (eqb a b) (ltb→lt a b) (eqb→eq a b))
    (λ t. back (ltb a b) (nltb→le a b) (leb→le a b t))
  where
    there : (p q : Bool) → (T p → a < b) → (T q → a ≡ b) → T (p || (q && true)) → T (leb a b)
    there true q f g t = le→leb a b (weak (f tt))
      where
        weak : a < b → a ≤ b
        weak l = omega arith
    there false true f g t = le→leb a b (weak (g tt))
      where
        weak : a ≡ b → a ≤ b
        weak l = omega arith
    there false false f g t = absurd t

    back : (p : Bool) → (T (not p) → b ≤ a) → a ≤ b → T (p || (eqb a b && true))
    back true f h = tt
    back false f h = subst (λ (z : Bool). T (z && true)) (sym (is_true (eqb a b) (eq→eqb (tie (f tt))))) tt
      where
        tie : b ≤ a → a ≡ b
        tie l = omega arith

pub not_leb : (a b : ℕ) → ltb a b ≡ not (leb b a)
not_leb a b = same_test (ltb a b) (not (leb b a)) (λ t. lt→nleb b a (ltb→lt a b t)) (λ t. lt→ltb a b (nleb→lt b a t))

pub eqb_comm : (a b : ℕ) → eqb a b ≡ eqb b a
eqb_comm a b = same_test (eqb a b) (eqb b a) (λ t. eq→eqb (sym (eqb→eq a b t))) (λ t. eq→eqb (sym (eqb→eq b a t)))

pub both_zero : (a b : ℕ) → (eqb b a && eqb b 0) ≡ leb (a + b) 0
both_zero a b = same_test (eqb b a && eqb b 0) (leb (a + b) 0)
    (λ t. le→leb (a + b) 0 (gone (eqb→eq b a (and_l (eqb b a) (eqb b 0) t)) (eqb→eq b 0 (and_r (eqb b a) (eqb b 0) t))))
    (λ t. and_i (eqb b a) (eqb b 0) (eq→eqb (flat (leb→le (a + b) 0 t))) (eq→eqb (none (leb→le (a + b) 0 t))))
  where
    gone : b ≡ a → b ≡ 0 → a + b ≤ 0
    gone x y = omega arith

    flat : a + b ≤ 0 → b ≡ a
    flat l = omega arith

    none : a + b ≤ 0 → b ≡ 0
    none l = omega arith

-- a number that is negative, or zero, is at most one that is not
pub neg_below : (a b : ℕ) → T (ltb 0 (a + b) || (eqb a b && (false || eqb a 0)))
neg_below a b = go (ltb 0 (a + b)) (nltb→le 0 (a + b))
  where
    go : (p : Bool) → (T (not p) → a + b ≤ 0) → T (p || (eqb a b && (false || eqb a 0)))
    go true h = tt
    go false h = subst (λ (z : Bool). T (z && eqb a 0)) (sym (is_true (eqb a b) (eq→eqb (flat (h tt))))) (eq→eqb (none (h tt)))
      where
        flat : a + b ≤ 0 → a ≡ b
        flat l = omega arith

        none : a + b ≤ 0 → a ≡ 0
        none l = omega arith

-- ±a is below ±b exactly where ±b is not at most ±a
pub below_not : (s : Bool) (a : ℕ) (t : Bool) (b : ℕ) → below s a t b ≡ not (below t b s a || level t b s a)
below_not false a false b = not_leb a b ∙ ap not (sym (leb_split b a))
below_not false a true b = ap not (sym (is_true (ltb 0 (b + a) || (eqb b a && (false || eqb b 0))) (neg_below b a)))
below_not true a false b = not_leb 0 (a + b) ∙ ap not (sym (both_zero a b))
below_not true a true b = not_leb b a ∙ ap not (sym (leb_split a b) ∙ ap (λ (z : Bool). ltb a b || (z && true)) (eqb_comm a b))

-- ---- ±a ≤ ±b, as a fact on numbers
abbrev pub Le : Bool → ℕ → Bool → ℕ → Type 0
Le false a false b = a ≤ b
Le false a true b = a + b ≤ 0
Le true a false b = Unit {0}
Le true a true b = b ≤ a

pub says : (s : Bool) (a : ℕ) (t : Bool) (b : ℕ) → T (below s a t b || level s a t b) → Le s a t b
says false a false b h = leb→le a b (subst T (leb_split a b) h)
says false a true b h = gone (eqb→eq a b (and_l (eqb a b) (eqb a 0) h)) (eqb→eq a 0 (and_r (eqb a b) (eqb a 0) h))
  where
    gone : a ≡ b → a ≡ 0 → a + b ≤ 0
    gone x y = omega arith
says true a false b h = tt
says true a true b h = leb→le b a (subst T (ap (λ (z : Bool). ltb b a || (z && true)) (eqb_comm a b) ∙ leb_split b a) h)

pub said : (s : Bool) (a : ℕ) (t : Bool) (b : ℕ) → Le s a t b → T (below s a t b || level s a t b)
said false a false b h = subst T (sym (leb_split a b)) (le→leb a b h)
said false a true b h = and_i (eqb a b) (eqb a 0) (eq→eqb flat) (eq→eqb none)
  where
    flat : a ≡ b
    flat = omega arith

    none : a ≡ 0
    none = omega arith
said true a false b h = neg_below a b
said true a true b h = subst T (sym (ap (λ (z : Bool). ltb b a || (z && true)) (eqb_comm a b) ∙ leb_split b a)) (le→leb b a h)

wide : (s : Bool) (a : ℕ) (t : Bool) (b k : ℕ) → Le s a t b → Le s (a * k) t (b * k)
wide false a false b k h = mul-le-mul_right k h
wide false a true b k h = le_trans (le_of_eq (sym (add-mul a b k))) (le_trans (mul-le-mul_right k h) (le_of_eq (zero-mul k)))
wide true a false b k h = tt
wide true a true b k h = mul-le-mul_right k h

narrow : (s : Bool) (a : ℕ) (t : Bool) (b k : ℕ) → 0 < k → Le s (a * k) t (b * k) → Le s a t b
narrow false a false b k K h = le_of_mul-le-mul_right h K
narrow false a true b k K h = le_of_mul-le-mul_right (le_trans (le_of_eq (add-mul a b k)) (le_trans h (le_of_eq (sym (zero-mul k))))) K
narrow true a false b k K h = tt
narrow true a true b k K h = le_of_mul-le-mul_right h K

chain : (s : Bool) (a : ℕ) (t : Bool) (b : ℕ) (u : Bool) (c : ℕ) → Le s a t b → Le t b u c → Le s a u c
chain false a false b false c h k = omega arith
chain false a false b true c h k = omega arith
chain false a true b false c h k = omega arith
chain false a true b true c h k = omega arith
chain true a false b false c h k = tt
chain true a false b true c h k = omega arith
chain true a true b false c h k = tt
chain true a true b true c h k = omega arith

-- x / p ≤ y / q ≤ z / r
pub through : (s : Bool) (x p : ℕ) (t : Bool) (y q : ℕ) (u : Bool) (z r : ℕ) → 0 < q → Le s (x * q) t (y * p) → Le t (y * r) u (z * q) → Le s (x * r) u (z * p)
through s x p t y q u z r Q h k =
    narrow s (x * r) u (z * p) q Q
    (subst (λ (v : ℕ). Le s v u (z * p * q)) (mul_right_comm x q r)
    (subst (λ (v : ℕ). Le s (x * q * r) u v) (mul_right_comm z q p)
    (chain s (x * q * r) t (y * p * r) u (z * q * p) (wide s (x * q) t (y * p) r h)
    (subst (λ (v : ℕ). Le t v u (z * q * p)) (mul_right_comm y r p) (wide t (y * r) u (z * q) p k)))))
