-- Laws on refusals that callers cite.
use Rattle.std.specs.Prelude.{◌≡◌, refl, Bool, true, false, ℕ, zero, suc, ◌<◌}
use Rattle.std.proofs.Common.{⊎_elim, eq-or-lt_of_le, le_of_suc-le-suc, not-suc-le-zero, arith}
use Rattle.domain.specs.Refusals.{when, or_else, first_below}

-- ---- of refusals, none is left only where each is none

pub or_else_first : (a b : ℕ) → or_else a b ≡ 0 → a ≡ 0
unfolding or_else
or_else_first zero b h = refl
or_else_first (suc a) b h = h

pub or_else_second : (a b : ℕ) → or_else a b ≡ 0 → b ≡ 0
unfolding or_else
or_else_second zero b h = h
or_else_second (suc a) b h = omega arith

pub when_none : (b : Bool) (n : ℕ) → when b (suc n) ≡ 0 → b ≡ false
when_none true n h = absurd (omega arith)
when_none false n h = refl

pub first_none : (g : ℕ → ℕ) (n k : ℕ) → first_below g n ≡ 0 → k < n → g k ≡ 0
unfolding first_below
first_none g zero k h l = absurd (not-suc-le-zero l)
first_none g (suc n) k h l =
    ⊎_elim (λ e. rw e (or_else_second (first_below g n) (g n) h)) (λ m. first_none g n k (or_else_first (first_below g n) (g n) h) m)
    (eq-or-lt_of_le (le_of_suc-le-suc l))

-- and the first of two that are the same below n is the same
pub first_same : (g h : ℕ → ℕ) (n : ℕ) → ((k : ℕ) → k < n → g k ≡ h k) → first_below g n ≡ first_below h n
unfolding first_below
first_same g h zero e = refl
first_same g h (suc n) e = rw (first_same g h n (λ k l. e k (omega arith)), e n (omega arith))
