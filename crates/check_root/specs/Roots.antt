-- `root n` is the whole part of √n, and 2 * root n + rest n stands to every even number 2 * j as 2√n does.
use Rattle.std.specs.Prelude.{◌≡◌, ℕ, zero, suc, ◌+◌, ◌-◌, ◌*◌, ◌/◌, ◌^◌, ◌≤◌, ◌<◌, Bool, true, false, not, cond, T, leb, ltb}
use Rattle.std.proofs.Common.{sym, ap, ◌∙◌, subst, zero-le, le_trans, le_of_lt, le_of_eq, lt_of_lt_of_le, lt_of_le_of_lt, le_antisymm, pow-suc, suc-mul}
use Rattle.std.proofs.Common.{mul-suc, pow-add, arith, leb→le, ltb→lt, nltb→le, lit≤, lt-ltb, le-ltb}
use Rattle.std.proofs.Math.Dec.{nleb→lt}
use Rattle.std.specs.Float.Ieee.{size}
use Rattle.std.specs.Float.Ieee.Digits.{size-lt}
use Rattle.check_root.specs.Root.{root_in, root, rest, near_root}
use Rattle.check_root.specs.Powers.{sq_lt, two_four, four}

abbrev Is : ℕ → ℕ → Type 0
Is n q = (q * q ≤ n) × (n < (q + 1) * (q + 1))

step : (n p : ℕ) → Is (n / 4) p → Is n (cond (leb ((2 * p + 1) * (2 * p + 1)) n) (2 * p + 1) (2 * p))
step n p h = go (leb ((2 * p + 1) * (2 * p + 1)) n) (leb→le _ _) (nleb→lt _ _)
  where
    go : (b : Bool) → (T b → (2 * p + 1) * (2 * p + 1) ≤ n) → (T (not b) → n < (2 * p + 1) * (2 * p + 1)) → Is n (cond b (2 * p + 1) (2 * p))
    go true a b = (a tt, omega arith)
    go false a b = (omega arith, b tt)

pub root_in_is : (k n : ℕ) → n < 4 ^ k → Is n (root_in k n)
unfolding root_in
root_in_is zero n h = (zero-le, h)
root_in_is (suc k) n h = step n (root_in k (n / 4)) (root_in_is k (n / 4) (quarter (4 ^ k) (subst (λ (x : ℕ). n < x) (pow-suc 4 k) h)))
  where
    quarter : (p : ℕ) → n < p * 4 → n / 4 < p
    quarter p l = omega arith

root_both : (n : ℕ) → Is n (root n)
unfolding root
root_both n = root_in_is (size n) n (lt_of_lt_of_le (size-lt n) (two_four (size n)))

-- the square of root n is at most n, and that of the next number is above it
pub root_low : (n : ℕ) → root n * root n ≤ n
root_low n = (root_both n).0

pub root_high : (n : ℕ) → n < (root n + 1) * (root n + 1)
root_high n = (root_both n).1

pub root_ge : (n j : ℕ) → j * j ≤ n → j ≤ root n
root_ge n j h =
    let l = sq_lt j (root n + 1) (lt_of_le_of_lt h (root_high n)) in
    omega arith

pub root_lt : (n j : ℕ) → n < j * j → root n < j
root_lt n j h = sq_lt (root n) j (lt_of_le_of_lt (root_low n) h)

pub root_is : (n q : ℕ) → q * q ≤ n → n < (q + 1) * (q + 1) → root n ≡ q
root_is n q a b =
    let x = root_ge n q a in
    let y = root_lt n (q + 1) b in
    omega arith

rest_le : (n : ℕ) → rest n ≤ 1
unfolding rest
rest_le n = go (ltb (root n * root n) n)
  where
    go : (b : Bool) → cond b 1 0 ≤ 1
    go true = lit≤ tt
    go false = lit≤ tt

rest_one : (n : ℕ) → root n * root n < n → rest n ≡ 1
unfolding rest
rest_one n h = ap (λ (b : Bool). cond b 1 0) (lt-ltb _ _ h)

rest_zero : (n : ℕ) → n ≤ root n * root n → rest n ≡ 0
unfolding rest
rest_zero n h = ap (λ (b : Bool). cond b 1 0) (le-ltb _ _ h)

-- ---- 2 * root n + rest n against an even number

pub below : (n j : ℕ) → j * j < n → 2 * j < 2 * root n + rest n
below n j h = go (ltb j (root n)) (ltb→lt _ _) (nltb→le _ _)
  where
    go : (b : Bool) → (T b → j < root n) → (T (not b) → root n ≤ j) → 2 * j < 2 * root n + rest n
    go true l g = let x = l tt in omega arith
    go false l g =
        let e : root n ≡ j = le_antisymm (g tt) (root_ge n j (le_of_lt h)) in
        let o = rest_one n (subst (λ (x : ℕ). x * x < n) (sym e) h) in
        omega arith

pub above : (n j : ℕ) → n < j * j → 2 * root n + rest n < 2 * j
above n j h =
    let x = root_lt n j h in
    let y = rest_le n in
    omega arith

-- ---- the nearest whole number, from a root q and what is left, r

pub near_up : (n q r : ℕ) → q * q + r ≡ n → r ≤ 2 * q → q < r → q + 1 ≡ near_root n
unfolding near_root
near_up n q r e l h =
    let i : root n ≡ q = root_is n q (omega arith) (omega arith) in
    let t : q * q + q < n = omega arith in
    sym (ap (λ (x : ℕ). cond (ltb (x * x + x) n) (x + 1) x) i ∙ ap (λ (b : Bool). cond b (q + 1) q) (lt-ltb _ _ t))

pub near_down : (n q r : ℕ) → q * q + r ≡ n → r ≤ 2 * q → r ≤ q → q ≡ near_root n
unfolding near_root
near_down n q r e l h =
    let i : root n ≡ q = root_is n q (omega arith) (omega arith) in
    let t : n ≤ q * q + q = omega arith in
    sym (ap (λ (x : ℕ). cond (ltb (x * x + x) n) (x + 1) x) i ∙ ap (λ (b : Bool). cond b (q + 1) q) (le-ltb _ _ t))

-- √n is less than a half away from near_root n
pub near_between : (n p : ℕ) → near_root n ≡ p + 1 → ((2 * p + 1) * (2 * p + 1) < 4 * n) × (4 * n < (2 * p + 3) * (2 * p + 3))
unfolding near_root
near_between n p = go (ltb (root n * root n + root n) n) (root n) (root_low n) (root_high n) (ltb→lt _ _) (nltb→le _ _)
  where
    up : (q : ℕ) → q * q + q < n → n < (q + 1) * (q + 1) → ((2 * q + 1) * (2 * q + 1) < 4 * n) × (4 * n < (2 * q + 3) * (2 * q + 3))
    up q a b = (omega arith, omega arith)

    down : (q : ℕ) → (q + 1) * (q + 1) ≤ n → n ≤ (q + 1) * (q + 1) + (q + 1) → ((2 * q + 1) * (2 * q + 1) < 4 * n) × (4 * n < (2 * q + 3) * (2 * q + 3))
    down q a b = (omega arith, omega arith)

    go : (b : Bool) (q : ℕ) → q * q ≤ n → n < (q + 1) * (q + 1) → (T b → q * q + q < n) → (T (not b) → n ≤ q * q + q) → cond b (q + 1) q ≡ p + 1
        → ((2 * p + 1) * (2 * p + 1) < 4 * n) × (4 * n < (2 * p + 3) * (2 * p + 3))
    go true q l h a b e =
        let i : q ≡ p = omega arith in
        up p (subst (λ (x : ℕ). x * x + x < n) i (a tt)) (subst (λ (x : ℕ). n < (x + 1) * (x + 1)) i h)
    go false q l h a b e = down p (subst (λ (x : ℕ). x * x ≤ n) e l) (subst (λ (x : ℕ). n ≤ x * x + x) e (b tt))

pub near_ge : (n : ℕ) → (root n ≤ near_root n) × (near_root n ≤ root n + 1)
unfolding near_root
near_ge n = go (ltb (root n * root n + root n) n) (root n)
  where
    go : (b : Bool) (q : ℕ) → (q ≤ cond b (q + 1) q) × (cond b (q + 1) q ≤ q + 1)
    go true q = (omega arith, omega arith)
    go false q = (omega arith, omega arith)

-- ---- n against squares of multiples of 2 ^ d

square : (j d : ℕ) → j * 2 ^ d * (j * 2 ^ d) ≡ j * j * 4 ^ d
square j d = let e = four d in rw e (omega arith)

pub root_from : (n j d : ℕ) → j * j * 4 ^ d ≤ n → j * 2 ^ d ≤ root n
root_from n j d h = root_ge n (j * 2 ^ d) (le_trans (le_of_eq (square j d)) h)

pub root_under : (n j d : ℕ) → n < j * j * 4 ^ d → root n < j * 2 ^ d
root_under n j d h = root_lt n (j * 2 ^ d) (lt_of_lt_of_le h (le_of_eq (sym (square j d))))

-- against a middle between two multiples of 2 ^ d, for d = h + 1
half_square : (j h : ℕ) → j * j * 4 ^ (h + 1) ≡ 4 * (j * 2 ^ h * (j * 2 ^ h))
half_square j h =
    let b : 4 ^ (h + 1) ≡ 2 ^ h * 2 ^ h * 4 = pow-add 4 h 1 ∙ ap (λ (x : ℕ). x * 4) (four h) in
    rw b (omega arith)

twice_half : (j h : ℕ) → j * 2 ^ (h + 1) ≡ 2 * (j * 2 ^ h)
twice_half j h =
    let a : 2 ^ (h + 1) ≡ 2 ^ h * 2 = pow-add 2 h 1 in
    rw a (omega arith)

pub middle_below : (j n h : ℕ) → j * j * 4 ^ (h + 1) < 4 * n → j * 2 ^ (h + 1) < 2 * root n + rest n
middle_below j n h l =
    let s = half_square j h in
    rw (twice_half j h) (below n (j * 2 ^ h) (omega arith))

pub middle_above : (j n h : ℕ) → 4 * n < j * j * 4 ^ (h + 1) → 2 * root n + rest n < j * 2 ^ (h + 1)
middle_above j n h l =
    let s = half_square j h in
    rw (twice_half j h) (above n (j * 2 ^ h) (omega arith))

-- half of it is the root again
pub half_is : (n : ℕ) → (2 * root n + rest n) / 2 ≡ root n
half_is n = let y = rest_le n in omega arith

-- ---- a larger number has no smaller root
pub mono : (n m : ℕ) → n ≤ m → 2 * root n + rest n ≤ 2 * root m + rest m
mono n m h = go (ltb (root n * root n) n) (ltb→lt _ _) (nltb→le _ _)
  where
    go : (b : Bool) → (T b → root n * root n < n) → (T (not b) → n ≤ root n * root n) → 2 * root n + rest n ≤ 2 * root m + rest m
    go true a b =
        let x = below m (root n) (lt_of_lt_of_le (a tt) h) in
        let y = rest_le n in
        omega arith
    go false a b =
        let x = root_ge m (root n) (le_trans (root_low n) h) in
        let y : rest n ≡ 0 = rest_zero n (b tt) in
        omega arith

-- ---- the nearest whole number, known by its own square

square_more : (k : ℕ) → (k + 1) * (k + 1) ≡ k * k + 2 * k + 1
square_more k =
    let i : k + 1 ≡ suc k = omega arith in
    let a : suc k * suc k ≡ k * suc k + suc k = suc-mul k (suc k) in
    let b : k * suc k ≡ k * k + k = mul-suc k k in
    rw i (omega arith)

pub near_is : (n k : ℕ) → k * k < n + k → n ≤ k * k + k → k ≡ near_root n
near_is n zero l h = near_down n 0 0 (omega arith) (omega arith) (omega arith)
near_is n (suc q) l h = go (leb (suc q * suc q) n) (leb→le _ _) (nleb→lt _ _)
  where
    go : (b : Bool) → (T b → suc q * suc q ≤ n) → (T (not b) → n < suc q * suc q) → suc q ≡ near_root n
    go true a b =
        let x = a tt in
        near_down n (suc q) (n - suc q * suc q) (omega arith) (omega arith) (omega arith)
    go false a b =
        let x = b tt in
        let e : suc q ≡ q + 1 = omega arith in
        e ∙ near_up n q (n - q * q) (omega arith) (omega arith) (omega arith)

-- How far n lies from the square of k, as e is from t, tells whether k, the number above it or the one below is the nearest.
module _ (n k e t : ℕ) (apart : n + t ≡ e + k * k) where
  pub near_same : t < e + k → e ≤ t + k → k ≡ near_root n
  near_same a b = near_is n k (omega arith) (omega arith)

  pub near_above : t + k < e → e ≤ t + 3 * k + 2 → k + 1 ≡ near_root n
  near_above a b = let s = square_more k in near_is n (k + 1) (omega arith) (omega arith)

pub near_below : (n k e t : ℕ) → n + t ≡ e + k * k → 0 < k → t + 2 < e + 3 * k → e + k ≤ t → k - 1 ≡ near_root n
near_below n zero e t apart p a b = absurd (omega arith)
near_below n (suc j) e t apart p a b =
    let i : suc j ≡ j + 1 = omega arith in
    let s = rw (← i) at (square_more j) in
    let d : suc j - 1 ≡ j = omega arith in
    rw d (near_is n j (omega arith) (omega arith))

-- the two digits of the square of k put these apart
pub squares_apart : (m k h t : ℕ) → h * 2 ^ 52 + t ≡ k * k → h ≤ m + 2 → m * 4 ^ 26 + (t + 2 ^ 53) ≡ (m + 2 - h) * 2 ^ 52 + k * k
squares_apart m k h t e l = omega arith
