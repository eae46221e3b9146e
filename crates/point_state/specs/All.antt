-- A test that holds of each number below n, with the laws that a loop cites which ends at the first failure.
use Rattle.std.specs.Prelude.{◌≡◌, refl, Bool, true, false, ◌&&◌, ℕ, zero, suc, ◌+◌, ◌<◌}
use Rattle.std.proofs.Common.{⊎_elim, eq-or-lt_of_le, le_of_suc-le-suc, not-suc-le-zero, add-one, arith}
use Rattle.lists.specs.Bools.{and_none}

unfoldable pub all : (ℕ → Bool) → ℕ → Bool
all f zero = true
all f (suc n) = all f n && f n

pub all_more : (f : ℕ → Bool) (i : ℕ) → all f i ≡ true → f i ≡ true → all f (i + 1) ≡ true
unfolding all
all_more f i a e = rw (add-one, a, e)

pub all_false : (f : ℕ → Bool) (n i : ℕ) → i < n → f i ≡ false → all f n ≡ false
unfolding all
all_false f zero i h e = absurd (not-suc-le-zero h)
all_false f (suc n) i h e =
    ⊎_elim (λ q. and_none (all f n) (f n) (rw q at e)) (λ l. rw (all_false f n i l e)) (eq-or-lt_of_le (le_of_suc-le-suc h))

-- two tests that agree below n
pub all_same : (f g : ℕ → Bool) (n : ℕ) → ((i : ℕ) → i < n → f i ≡ g i) → all f n ≡ all g n
unfolding all
all_same f g zero h = refl
all_same f g (suc n) h = rw (h n (omega arith), all_same f g n (λ i l. h i (omega arith)))
