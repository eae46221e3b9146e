-- Laws on what is gathered from 0 up to a bound: sums, tests, counts and words.
use Rattle.std.specs.Prelude.{◌≡◌, refl, ◌⊎◌, Bool, true, false, ◌&&◌, ◌||◌, List, [], ◌++◌, ℕ, zero, suc, ◌+◌, ◌-◌, ◌*◌, ◌<◌, ◌≤◌, ltb, eqb, length}
use Rattle.std.proofs.Common.{sym, ap, ◌∙◌, inl, inr, append-nil, zero-le, not-suc-le-zero, add-zero, zero-add, eq-or-lt_of_le, le_of_suc-le-suc, arith}
use Rattle.std.proofs.Common.{length-append, ltb-true, ltb-false, lt-ltb, le-ltb, eq-eqb, ne_eqb}
use Rattle.std.proofs.Math.Bool.{or-true, or-false}
use Rattle.lists.specs.Below.{any_below, sum_below}
use Rattle.domain.specs.Refusals.{when}
use Rattle.lists.specs.Below.{all_below}

-- ---- two numbers, and the three ways in which they can stand

pub three_ways : (a b : ℕ) → (a < b) ⊎ ((a ≡ b) ⊎ (b < a))
three_ways a b = go (ltb a b) (ltb-true a b) (ltb-false a b)
  where
    go : (t : Bool) → (t ≡ true → a < b) → (t ≡ false → b ≤ a) → (a < b) ⊎ ((a ≡ b) ⊎ (b < a))
    go true f g = inl (f refl)
    go false f g = inr (near (eq-or-lt_of_le (g refl)))
      where
        near : (b ≡ a) ⊎ (b < a) → (a ≡ b) ⊎ (b < a)
        near (inl e) = inl (sym e)
        near (inr l) = inr l

-- ---- the same at each place below the bound

-- ---- words at one place only, or at none

pub none_below : (g : ℕ → List ℕ) (n : ℕ) → ((k : ℕ) → k < n → g k ≡ []) → all_below g n ≡ []
unfolding all_below
none_below g zero h = refl
none_below g (suc n) h = ap (λ (v : List ℕ). v ++ g n) (none_below g n (λ k l. h k (omega arith))) ∙ h n (omega arith)

pub one_below : (g : ℕ → List ℕ) (n i : ℕ) → i < n → ((k : ℕ) → (k ≡ i → ⊥) → g k ≡ []) → all_below g n ≡ g i
unfolding all_below
one_below g zero i l h = absurd (not-suc-le-zero l)
one_below g (suc n) i l h = go (eq-or-lt_of_le (le_of_suc-le-suc l)) (λ m. one_below g n i m h)
  where
    go : (i ≡ n) ⊎ (i < n) → (i < n → all_below g n ≡ g i) → all_below g n ++ g n ≡ g i
    go (inl e) before = ap (λ (v : List ℕ). v ++ g n) (none_below g n (λ k m. h k (λ c. omega arith))) ∙ ap g (sym e)
    go (inr m) before = ap (λ (v : List ℕ). v ++ g n) (before m) ∙ ap (λ (v : List ℕ). g i ++ v) (h n (λ c. omega arith)) ∙ append-nil (g i)

pub length_below : (g : ℕ → List ℕ) (n : ℕ) → length (all_below g n) ≡ sum_below (λ k. length (g k)) n
unfolding all_below sum_below
length_below g zero = refl
length_below g (suc n) = length-append (all_below g n) (g n) ∙ ap (λ (v : ℕ). v + length (g n)) (length_below g n)

-- ---- sums

pub sum_none : (f : ℕ → ℕ) (n : ℕ) → ((k : ℕ) → k < n → f k ≡ 0) → sum_below f n ≡ 0
unfolding sum_below
sum_none f zero h = refl
sum_none f (suc n) h = ap (λ (v : ℕ). v + f n) (sum_none f n (λ k l. h k (omega arith))) ∙ zero-add (f n) ∙ h n (omega arith)

pub sum_both : (f g : ℕ → ℕ) (n : ℕ) → sum_below (λ k. f k + g k) n ≡ sum_below f n + sum_below g n
unfolding sum_below
sum_both f g zero = refl
sum_both f g (suc n) = ap (λ (v : ℕ). v + (f n + g n)) (sum_both f g n) ∙ regroup (sum_below f n) (sum_below g n) (f n) (g n)
  where
    regroup : (a b c d : ℕ) → a + b + (c + d) ≡ a + c + (b + d)
    regroup a b c d = omega arith

pub sum_most : (f : ℕ → ℕ) (n top : ℕ) → ((k : ℕ) → k < n → f k ≤ top) → sum_below f n ≤ n * top
unfolding sum_below
sum_most f zero top h = zero-le
sum_most f (suc n) top h = more (sum_below f n) (f n) (sum_most f n top (λ k l. h k (omega arith))) (h n (omega arith))
  where
    more : (a b : ℕ) → a ≤ n * top → b ≤ top → a + b ≤ suc n * top
    more a b p q = omega arith

pub sum_front : (f : ℕ → ℕ) (n : ℕ) → sum_below f (suc n) ≡ f 0 + sum_below (λ k. f (suc k)) n
unfolding sum_below
sum_front f zero = zero-add (f 0) ∙ sym (add-zero (f 0))
sum_front f (suc n) = ap (λ (v : ℕ). v + f (suc n)) (sum_front f n) ∙ regroup (f 0) (sum_below (λ k. f (suc k)) n) (f (suc n))
  where
    regroup : (a b c : ℕ) → a + b + c ≡ a + (b + c)
    regroup a b c = omega arith

-- ---- how often a test holds

abbrev pub count : (ℕ → Bool) → ℕ → ℕ
count p n = sum_below (λ k. when (p k) 1) n

pub any_count : (p : ℕ → Bool) (n : ℕ) → any_below p n ≡ ltb 0 (count p n)
unfolding any_below sum_below
any_count p zero = refl
any_count p (suc n) = ap (λ (v : Bool). v || p n) (any_count p n) ∙ step (p n) (count p n)
  where
    step : (t : Bool) (c : ℕ) → (ltb 0 c || t) ≡ ltb 0 (c + when t 1)
    step true c = or-true (ltb 0 c) ∙ sym (lt-ltb 0 (c + 1) (omega arith))
    step false c = or-false (ltb 0 c) ∙ ap (ltb 0) (sym (add-zero c))

-- one less than it holds, where each time but the first counts
pub count_again : (p : ℕ → Bool) (n : ℕ) → sum_below (λ k. when (p k && any_below p k) 5) n ≡ 5 * (count p n - 1)
unfolding sum_below
count_again p zero = refl
count_again p (suc n) =
    ap (λ (v : ℕ). v + when (p n && any_below p n) 5) (count_again p n)
    ∙ ap (λ (v : Bool). 5 * (count p n - 1) + when (p n && v) 5) (any_count p n)
    ∙ step (p n) (count p n)
  where
    step : (t : Bool) (c : ℕ) → 5 * (c - 1) + when (t && ltb 0 c) 5 ≡ 5 * (c + when t 1 - 1)
    step false c = omega arith
    step true zero = refl
    step true (suc c) = ap (λ (v : Bool). 5 * (suc c - 1) + when v 5) (lt-ltb 0 (suc c) (omega arith)) ∙ last c
      where
        last : (c : ℕ) → 5 * (suc c - 1) + 5 ≡ 5 * (suc c + 1 - 1)
        last c = omega arith

-- a test at one place only
pub count_one : (c : ℕ → Bool) (i n : ℕ) → count (λ k. eqb i k && c k) n ≡ when (ltb i n && c i) 1
unfolding sum_below
count_one c i zero = ap (λ (v : Bool). when (v && c i) 1) (sym (le-ltb i 0 zero-le))
count_one c i (suc n) = ap (λ (v : ℕ). v + when (eqb i n && c n) 1) (count_one c i n) ∙ go (three_ways i n)
  where
    go : (i < n) ⊎ ((i ≡ n) ⊎ (n < i)) → when (ltb i n && c i) 1 + when (eqb i n && c n) 1 ≡ when (ltb i (suc n) && c i) 1
    go (inl l) = rw (lt-ltb i n l, ne_eqb i n (λ e. omega arith), lt-ltb i (suc n) (omega arith)) (add-zero (when (c i) 1))
    go (inr (inl e)) = rw (le-ltb i n (omega arith), eq-eqb i n e, lt-ltb i (suc n) (omega arith))
        (zero-add (when (c n) 1) ∙ ap (λ (k : ℕ). when (c k) 1) (sym e))
    go (inr (inr g)) = rw (le-ltb i n (omega arith), ne_eqb i n (λ e. omega arith), le-ltb i (suc n) (omega arith))
