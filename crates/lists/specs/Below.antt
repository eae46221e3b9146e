-- What is gathered from 0 up to a bound: whether a test holds somewhere, words one after the other, sums.
use Rattle.std.specs.Prelude.{◌≡◌, refl, Bool, false, ◌||◌, List, [], ◌++◌, ℕ, zero, suc, ◌+◌, ◌<◌, eqb, get_or}
use Rattle.std.proofs.Common.{ap, ⊎_elim, eq-or-lt_of_le, le_of_suc-le-suc, not-suc-le-zero, le_refl, arith}
use Rattle.lists.specs.Bools.{or_left, or_right}

-- whether the test holds somewhere below n
unfoldable pub any_below : (ℕ → Bool) → ℕ → Bool
any_below p zero = false
any_below p (suc n) = any_below p n || p n

-- g 0, g 1, .. below n, one after the other
unfoldable pub all_below : (ℕ → List ℕ) → ℕ → List ℕ
all_below g zero = []
all_below g (suc n) = all_below g n ++ g n

-- g 0 + g 1 + .. below n
unfoldable pub sum_below : (ℕ → ℕ) → ℕ → ℕ
sum_below g zero = 0
sum_below g (suc n) = sum_below g n + g n

-- entry j of a list of numbers is this one
unfoldable pub is_at : List ℕ → ℕ → ℕ → Bool
is_at ids id j = eqb (get_or ids j 0) id

-- ---- the numbers below a bound

-- below suc n: below n, or n
pub upto : (P : ℕ → Type 0) (n : ℕ) → ((j : ℕ) → j < n → P j) → P n → (j : ℕ) → j < suc n → P j
upto P n below at j h = ⊎_elim (λ e. rw e at) (λ l. below j l) (eq-or-lt_of_le (le_of_suc-le-suc h))

-- what holds below n + 1 holds below n
pub fewer : {P : ℕ → Type 0} (n : ℕ) → ((k : ℕ) → k < suc n → P k) → (k : ℕ) → k < n → P k
fewer n h k l = h k (omega arith)

-- ---- tests

-- where none holds, the test at each place does not
pub any_none : (p : ℕ → Bool) (n k : ℕ) → any_below p n ≡ false → k < n → p k ≡ false
unfolding any_below
any_none p zero k h l = absurd (not-suc-le-zero l)
any_none p (suc n) k h l =
    upto (λ j. p j ≡ false) n (λ j m. any_none p n j (or_left (any_below p n) (p n) h) m) (or_right (any_below p n) (p n) h) k l

-- and where it holds at no place, none does
pub none_any : (p : ℕ → Bool) (n : ℕ) → ((j : ℕ) → j < n → p j ≡ false) → any_below p n ≡ false
unfolding any_below
none_any p zero h = refl
none_any p (suc n) h = rw (none_any p n (fewer n h), h n (le_refl (suc n)))

-- two tests that agree below n agree on whether one holds there
pub any_same : (p q : ℕ → Bool) (n : ℕ) → ((j : ℕ) → j < n → p j ≡ q j) → any_below p n ≡ any_below q n
unfolding any_below
any_same p q zero h = refl
any_same p q (suc n) h = rw (any_same p q n (fewer n h), h n (le_refl (suc n)))

-- ---- words

pub all_same : (g h : ℕ → List ℕ) (n : ℕ) → ((k : ℕ) → k < n → g k ≡ h k) → all_below g n ≡ all_below h n
unfolding all_below
all_same g h zero e = refl
all_same g h (suc n) e = rw (all_same g h n (fewer n e), e n (le_refl (suc n)))

-- parts that are empty give nothing
pub all_none : (g : ℕ → List ℕ) (n : ℕ) → ((k : ℕ) → k < n → g k ≡ []) → all_below g n ≡ []
unfolding all_below
all_none g zero h = refl
all_none g (suc n) h = rw (all_none g n (fewer n h), h n (le_refl (suc n)))

-- ---- sums

pub sum_same : (f g : ℕ → ℕ) (n : ℕ) → ((k : ℕ) → k < n → f k ≡ g k) → sum_below f n ≡ sum_below g n
unfolding sum_below
sum_same f g zero h = refl
sum_same f g (suc n) h = rw (sum_same f g n (fewer n h), h n (le_refl (suc n)))

-- two sums whose terms differ at a alone differ as these terms do
pub sum_change : (f g : ℕ → ℕ) (q a : ℕ) → a < q → ((i : ℕ) → i < q → (i ≡ a → ⊥) → g i ≡ f i) → sum_below g q + f a ≡ sum_below f q + g a
unfolding sum_below
sum_change f g zero a l h = absurd (not-suc-le-zero l)
sum_change f g (suc q) a l h =
    ⊎_elim
    (λ e.
    let s : sum_below g q ≡ sum_below f q = sum_same g f q (λ i m. h i (omega arith) (λ d. omega arith)) in
    let x : f a ≡ f q = ap f e in
    let y : g a ≡ g q = ap g e in
    omega arith)
    (λ m.
    let s : sum_below g q + f a ≡ sum_below f q + g a = sum_change f g q a m (λ i k d. h i (omega arith) d) in
    let t : g q ≡ f q = h q (le_refl (suc q)) (λ d. omega arith) in
    omega arith)
    (eq-or-lt_of_le (le_of_suc-le-suc l))
