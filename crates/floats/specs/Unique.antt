-- A format has one float for each value and sign, and `round` gives a float of the format back.
use Rattle.std.specs.Prelude.{◌≡◌, refl, ℕ, zero, suc, ◌+◌, ◌-◌, ◌*◌, ◌%◌, ◌^◌, ◌≤◌, ◌<◌, Bool, ◌&&◌, ℤ, pos, negsuc, T, leb, ltb, eqb, Float}
use Rattle.std.proofs.Common.{sym, ap, ◌∙◌, subst, zero-le, lt_irrefl, lt_of_not-le, not-le_of_lt, lt_of_lt_of_le, le_of_suc-le-suc, zero-lt-suc, mul-one}
use Rattle.std.proofs.Common.{one-mul, zero-mul, mul_comm, mul_assoc, mul_left_comm, mul_right_comm, mul-pos, mul-lt-mul_of_pos_right, pow-suc, arith, ltb→lt}
use Rattle.std.proofs.Common.{leb→le, eqb→eq, pow-add, pow_pos, pow_mono, shl_lt}
use Rattle.std.proofs.Math.Nat.{pow-succ', eq_of_mul-eq-mul_right, suc_inj}
use Rattle.std.proofs.Math.Pow.{pow-lt}
use Rattle.std.specs.Float.{nan, inf, fin, Format}
use Rattle.std.specs.Float.Ieee.{prec, emax, low, up, down, round, fits}
use Rattle.std.specs.Float.Ieee.Fits.{up_pos, down_pos, and_l, and_r, round-fits, reach}
use Rattle.std.specs.Float.Ieee.Exact.{HasValue, round_exact}
use Rattle.std.specs.Float.Ieee.Digits.{back}

even_odd : (m t : ℕ) → m % 2 ≡ 1 → m ≡ 2 * t → ⊥
even_odd m t o h = omega arith

odd_pow : (m n a b : ℕ) → m % 2 ≡ 1 → n % 2 ≡ 1 → m * 2 ^ a ≡ n * 2 ^ b → (m ≡ n) × (a ≡ b)
odd_pow m n zero zero o p h = (sym (mul-one m) ∙ h ∙ mul-one n, refl)
odd_pow m n zero (suc b) o p h = absurd (even_odd m (n * 2 ^ b) o (sym (mul-one m) ∙ h ∙ ap (λ (x : ℕ). n * x) (pow-succ' 2 b) ∙ mul_left_comm n 2 (2 ^ b)))
odd_pow m n (suc a) zero o p h = absurd (even_odd n (m * 2 ^ a) p (sym (mul-one n) ∙ sym h ∙ ap (λ (x : ℕ). m * x) (pow-succ' 2 a) ∙ mul_left_comm m 2 (2 ^ a)))
odd_pow m n (suc a) (suc b) o p h =
    let r = odd_pow m n a b o p (eq_of_mul-eq-mul_right 2 (zero-lt-suc 1) (m * 2 ^ a) (n * 2 ^ b)
    (mul_assoc m (2 ^ a) 2 ∙ ap (λ (x : ℕ). m * x) (sym (pow-suc 2 a)) ∙ h ∙ ap (λ (x : ℕ). n * x) (pow-suc 2 b) ∙ sym (mul_assoc n (2 ^ b) 2))) in
    (r.0, ap suc r.1)

two_up : (p : ℕ) → 0 < p → 2 * p ≡ 1 → ⊥
two_up p h e = omega arith

flat : (e : ℤ) → up e * down e ≡ 1 → e ≡ pos 0
flat (pos zero) h = refl
flat (pos (suc k)) h = absurd (two_up (2 ^ k) (pow_pos k) (sym (pow-succ' 2 k) ∙ sym (mul-one (2 ^ suc k)) ∙ h))
flat (negsuc k) h = absurd (two_up (2 ^ k) (pow_pos k) (sym (pow-succ' 2 k) ∙ sym (one-mul (2 ^ suc k)) ∙ h))

zero_exp : (f : Format) (s : Bool) (e : ℤ) → T (fits f (fin s zero e)) → e ≡ pos 0
unfolding fits
zero_exp f s e t = flat e (eqb→eq (up e * down e) 1 t)

-- ---- what `fits` says of a float that is not zero
pub fit_says : (f : Format) (s : Bool) (m : ℕ) (e : ℤ) → T (fits f (fin s (suc m) e))
    → (suc m % 2 ≡ 1) × (suc m < 2 ^ prec f) × (down e ≤ 2 ^ low f) × (suc m * up e < 2 ^ suc (emax f) * down e)
unfolding fits
fit_says f s m e t =
    let a : Bool = eqb (suc m % 2) 1 in
    let b : Bool = ltb (suc m) (2 ^ prec f) in
    let c : Bool = leb (down e) (2 ^ low f) in
    let d : Bool = ltb (suc m * up e) (2 ^ suc (emax f) * down e) in
    let abc : T (a && b && c) = and_l (a && b && c) d t in
    let ab : T (a && b) = and_l (a && b) c abc in (
      eqb→eq (suc m % 2) 1 (and_l a b ab),
      ltb→lt (suc m) (2 ^ prec f) (and_r a b ab),
      leb→le (down e) (2 ^ low f) (and_r (a && b) c abc),
      ltb→lt (suc m * up e)
          (2 ^ suc (emax f) * down e) (and_r (a && b && c) d t),
    )

-- ---- one float for each value
same_exp : (m n : ℕ) (e g : ℤ) → m % 2 ≡ 1 → n % 2 ≡ 1 → m * up e * down g ≡ n * up g * down e → (m ≡ n) × (e ≡ g)
same_exp m n (pos i) (pos j) o p h =
    let r = odd_pow m n i j o p (sym (mul-one (m * 2 ^ i)) ∙ h ∙ mul-one (n * 2 ^ j)) in
    (r.0, ap pos r.1)
same_exp m n (pos i) (negsuc j) o p h =
    absurd (even_odd n (m * 2 ^ i * 2 ^ j) p
    (sym (mul-one n) ∙ sym (mul-one (n * 1)) ∙ sym h ∙ ap (λ (x : ℕ). m * 2 ^ i * x) (pow-succ' 2 j) ∙ mul_left_comm (m * 2 ^ i) 2 (2 ^ j)))
same_exp m n (negsuc i) (pos j) o p h =
    absurd (even_odd m (n * 2 ^ j * 2 ^ i) o
    (sym (mul-one m) ∙ sym (mul-one (m * 1)) ∙ h ∙ ap (λ (x : ℕ). n * 2 ^ j * x) (pow-succ' 2 i) ∙ mul_left_comm (n * 2 ^ j) 2 (2 ^ i)))
same_exp m n (negsuc i) (negsuc j) o p h =
    let r = odd_pow m n (suc j) (suc i) o p (ap (λ (x : ℕ). x * 2 ^ suc j) (sym (mul-one m)) ∙ h ∙ ap (λ (x : ℕ). x * 2 ^ suc i) (mul-one n)) in
    (r.0, ap negsuc (sym (suc_inj r.1)))

not_zero : (n : ℕ) (e g : ℤ) → zero * up e * down g ≡ suc n * up g * down e → ⊥
not_zero n e g h = lt_irrefl 0 (subst (λ (x : ℕ). 0 < x) (sym h ∙ ap (λ (y : ℕ). y * down g) (zero-mul (up e)) ∙ zero-mul (down g))
    (mul-pos (mul-pos (zero-lt-suc n) (up_pos g)) (down_pos e)))

pub cross_unique : (f : Format) (s : Bool) (m : ℕ) (e : ℤ) (n : ℕ) (g : ℤ) → T (fits f (fin s m e)) → T (fits f (fin s n g))
    → m * up e * down g ≡ n * up g * down e → fin s m e ≡ fin s n g
cross_unique f s zero e zero g p q h = ap (fin s zero) (zero_exp f s e p ∙ sym (zero_exp f s g q))
cross_unique f s zero e (suc n) g p q h = absurd (not_zero n e g h)
cross_unique f s (suc m) e zero g p q h = absurd (not_zero m g e (sym h))
cross_unique f s (suc m) e (suc n) g p q h =
    let r = same_exp (suc m) (suc n) e g (fit_says f s m e p).0 (fit_says f s n g q).0 h in
    λ i. fin s (r.0 i) (r.1 i)

cross : (X P Y Q a c : ℕ) → 0 < c → X * c ≡ a * P → Y * c ≡ a * Q → X * Q ≡ Y * P
cross X P Y Q a c C h k = eq_of_mul-eq-mul_right c C (X * Q) (Y * P)
    (mul_right_comm X Q c ∙ ap (λ (z : ℕ). z * Q) h ∙ mul_right_comm a P Q ∙ ap (λ (z : ℕ). z * P) (sym k) ∙ mul_right_comm Y c P)

pub unique : (f : Format) (x y : Float) (s : Bool) (a c : ℕ) → 0 < c → T (fits f x) → T (fits f y) → HasValue x s a c → HasValue y s a c → x ≡ y
unique f nan y s a c C p q v k = absurd v
unique f (inf t) y s a c C p q v k = absurd v
unique f (fin t m e) nan s a c C p q v k = absurd k
unique f (fin t m e) (inf u) s a c C p q v k = absurd k
unique f (fin t m e) (fin u n g) s a c C p q v k =
    ap (λ (z : Bool). fin z m e) v.0
    ∙ cross_unique f s m e n g (subst (λ (z : Bool). T (fits f (fin z m e))) v.0 p) (subst (λ (z : Bool). T (fits f (fin z n g))) k.0 q)
    (cross (m * up e) (down e) (n * up g) (down g) a c C v.1 k.1)
    ∙ ap (λ (z : Bool). fin z n g) (sym k.0)

-- ---- n / 2 ^ k is a value of the format, where n has no more digits than the format keeps
pub dyadic : (f : Format) (s : Bool) (n k : ℕ) → n < 2 ^ prec f → k ≤ low f → HasValue (round f s n (2 ^ k)) s n (2 ^ k)
dyadic f s n k h l = round_exact f s n (2 ^ k) n (low f - k) (pow_pos k) h
    (lt_of_lt_of_le (shl_lt (prec f) (low f - k) h) (pow_mono (room (prec f) (low f) k (suc (emax f)) (reach f))))
    (ap (λ (x : ℕ). n * x) (ap (λ (x : ℕ). 2 ^ x) (sym (back (low f) k l)) ∙ pow-add 2 (low f - k) k) ∙ sym (mul_assoc n (2 ^ (low f - k)) (2 ^ k)))
  where
    room : (p l k e : ℕ) → p ≤ e → p + (l - k) ≤ l + e
    room p l k e r = omega arith

-- ---- `round` at a float's own value
pow_le : (i j : ℕ) → 2 ^ i ≤ 2 ^ j → i ≤ j
pow_le i j h = le_of_suc-le-suc (lt_of_not-le (λ (g : suc j ≤ i). not-le_of_lt (pow-lt g) h))

own_round : (f : Format) (s : Bool) (m : ℕ) (e : ℤ) → m < 2 ^ prec f → down e ≤ 2 ^ low f → m * up e < 2 ^ suc (emax f) * down e
    → HasValue (round f s (m * up e) (down e)) s (m * up e) (down e)
own_round f s m (pos i) a b c =
    round_exact f s (m * 2 ^ i) 1 m (i + low f) (zero-lt-suc 0) a
    (subst (λ (x : ℕ). x < 2 ^ (low f + suc (emax f))) (sym is)
    (subst (λ (x : ℕ). m * 2 ^ i * 2 ^ low f < x)
    (ap (λ (x : ℕ). x * 2 ^ low f) (mul-one (2 ^ suc (emax f))) ∙ mul_comm (2 ^ suc (emax f)) (2 ^ low f) ∙ sym (pow-add 2 (low f) (suc (emax f))))
    (mul-lt-mul_of_pos_right c (pow_pos (low f)))))
    (sym is ∙ sym (mul-one (m * 2 ^ (i + low f))))
  where
    is : m * 2 ^ (i + low f) ≡ m * 2 ^ i * 2 ^ low f
    is = ap (λ (x : ℕ). m * x) (pow-add 2 i (low f)) ∙ sym (mul_assoc m (2 ^ i) (2 ^ low f))
own_round f s m (negsuc i) a b c = subst (λ (x : ℕ). HasValue (round f s x (2 ^ suc i)) s x (2 ^ suc i)) (sym (mul-one m))
    (dyadic f s m (suc i) a (pow_le (suc i) (low f) b))

zero_round : (f : Format) (s : Bool) → HasValue (round f s 0 1) s 0 1
zero_round f s = dyadic f s 0 0 (pow_pos (prec f)) zero-le

pub round_own : (f : Format) (s : Bool) (m : ℕ) (e : ℤ) → T (fits f (fin s m e)) → round f s (m * up e) (down e) ≡ fin s m e
round_own f s zero e p =
    unique f (round f s (zero * up e) (down e)) (fin s zero e) s (zero * up e) (down e) (down_pos e) (round-fits f s (zero * up e) (down e)) p
    (subst (λ (z : ℤ). HasValue (round f s (zero * up z) (down z)) s (zero * up z) (down z)) (sym (zero_exp f s e p)) (zero_round f s)) (refl, refl)
round_own f s (suc m) e p =
    let k = fit_says f s m e p in
    unique f (round f s (suc m * up e) (down e)) (fin s (suc m) e) s (suc m * up e) (down e) (down_pos e) (round-fits f s (suc m * up e) (down e)) p
    (own_round f s (suc m) e k.1 k.2 k.3) (refl, refl)
