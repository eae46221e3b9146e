-- How many pairs there are: line i has n - (i + 1) lines after it, and all n lines together at most half of n * n.
use mathlib.Core.Path.{◌≡◌, refl}
use Prim.Native.Nat.{ℕ, zero, suc, ◌+◌, ◌*◌, ◌/◌, ◌-◌, ◌<◌, ◌≤◌}
use native.Mathlib.Nat.{mul-suc, suc-mul, mul-le-mul}
use native.Mathlib.Omega.{arith}
use Rattle.domain.specs.Bounds.{most_lines}

-- p words, from `at` on, are enough for the pairs of all lines but the last d of n
abbrev pub Enough : ℕ → ℕ → ℕ → ℕ → Type 0
Enough at n d p = 2 * p + 5 * (d * d) + 5 * n ≤ 2 * at + 5 * (n * n) + 5 * d

-- none
pub enough_none : (at n : ℕ) → Enough at n (n - 0) at
enough_none at n = let e : n - 0 ≡ n = omega arith in rw e (omega arith)

square_more : (d : ℕ) → suc d * suc d ≡ d * d + 2 * d + 1
square_more d = let a : suc d * suc d ≡ d * suc d + suc d = suc-mul d (suc d) in let b : d * suc d ≡ d * d + d = mul-suc d d in omega arith

-- the pairs of one line more, which has d lines after it
pub enough_more : (at n i d p q : ℕ) → i < n → d ≡ n - (i + 1) → q ≤ p + 5 * d → Enough at n (n - i) p → Enough at n d q
enough_more at n i d p q l e h k = let s = square_more d in let x : n - i ≡ suc d = omega arith in let y = rw x at k in omega arith

-- those of all lines
pub enough_all : (at n p : ℕ) → Enough at n 0 p → p ≤ at + 5 * (n * n / 2)
enough_all at zero p h = omega arith
enough_all at (suc n) p h = omega arith

-- there is room for one line's pairs more
pub enough_room : (at n i p : ℕ) → i < n → n ≤ most_lines → Enough at n (n - i) p → p + 5 * (n - (i + 1)) ≤ at + 5 * (most_lines * most_lines / 2)
enough_room at n i p l m k =
    let d = n - (i + 1) in
    let w = enough_more at n i d p (p + 5 * d) l refl (omega arith) k in
    let s : n * n ≤ most_lines * most_lines = mul-le-mul {n₂ = most_lines} {m₂ = most_lines} m m in
    omega arith
