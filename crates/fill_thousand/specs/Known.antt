-- In an accepted sheet a line counts for the one kind that has its id, and a line of an unknown kind for nothing.
use Rattle.std.specs.Prelude.{◌≡◌, ℕ, zero, suc, ◌+◌, ◌<◌, ◌≤◌, Bool, true, false, not, T, ◌⊎◌, List, ◌==◌, ◌≢◌, nat_lt, refl, Float}
use Rattle.std.proofs.Common.{zero-le, eq-or-lt_of_le, le_of_suc-le-suc, not-suc-le-zero, add-zero, zero-add, mul-le-mul, arith, sym, ap, ◌∙◌, inl, inr, ⊎_elim}
use Rattle.std.proofs.Common.{ltb→lt, nltb→le, eq-eqb, ne_eqb, eqb-true}
use Rattle.floats.specs.Ops.{x, y, z}
use Rattle.floats.specs.Weak.{true_false}
use Rattle.lists.specs.Below.{sum_below}
use Rattle.domain.specs.Refusals.{when}
use Rattle.lists.specs.Below.{any_none}
use Rattle.sheet.specs.declared.Sheet.{Sheet}
use Rattle.sheet.specs.Sheets.{kind_at, line_at, same_id}
use Rattle.sheet.specs.Accepted.{Accepted}
use Rattle.fill_thousand.specs.SideLaws.{side_most}
use Rattle.fill_thousand.specs.Fill.{most_solid, solid_of, solid_named, solid_if, line_volume}

-- ---- sums of which one number at most is not 0

none_sum : (g : ℕ → ℕ) (n : ℕ) → ((k : ℕ) → k < n → g k ≡ 0) → sum_below g n ≡ 0
unfolding sum_below
none_sum g zero h = refl
none_sum g (suc n) h = let a = none_sum g n (λ k l. h k (omega arith)) in let b = h n (omega arith) in omega arith

one_sum : (g : ℕ → ℕ) (n j : ℕ) → j < n → ((k : ℕ) → k < n → (k ≢ j) → g k ≡ 0) → sum_below g n ≡ g j
unfolding sum_below
one_sum g zero j l h = absurd (not-suc-le-zero l)
one_sum g (suc n) j l h =
    ⊎_elim
    (λ (e : j ≡ n). let a = none_sum g n (λ k m. h k (omega arith) (λ f. omega arith)) in ap (λ (u : ℕ). u + g n) a ∙ zero-add (g n) ∙ ap g (sym e))
    (λ (m : j < n). let b = h n (omega arith) (λ f. omega arith) in ap (λ (u : ℕ). sum_below g n + u) b ∙ add-zero (sum_below g n)
    ∙ one_sum g n j m (λ k p q. h k (omega arith) q))
    (eq-or-lt_of_le (le_of_suc-le-suc l))

before_or_after : (k j : ℕ) → (k ≢ j) → (k < j) ⊎ (j < k)
before_or_after k j d = go (nat_lt k j) (ltb→lt k j) (nltb→le k j)
  where
    go : (b : Bool) → (T b → k < j) → (T (not b) → j ≤ k) → (k < j) ⊎ (j < k)
    go true f g = inl (f tt)
    go false f g = ⊎_elim (λ (e : j ≡ k). absurd (d (sym e))) (λ (l : j < k). inr l) (eq-or-lt_of_le (g tt))

-- ---- volumes

-- the volume of three sides, or none, is at most that of the longest
pub solid_most : (size : List Float) → solid_of size ≤ most_solid
unfolding solid_of
solid_most size = mul-le-mul (mul-le-mul (side_most (x size)) (side_most (y size))) (side_most (z size))

when_most : (b : Bool) {v m : ℕ} → v ≤ m → when b v ≤ m
when_most true h = h
when_most false h = zero-le

-- ---- lines

-- a sheet in which an id repeats an earlier kind's is refused, so no two kinds of an accepted one have one id
differ : (s : Sheet) → Accepted s → (j k : ℕ) → k < s.many.kinds → j < k → (kind_at s j).id ≢ (kind_at s k).id
unfolding same_id
differ s a j k K l e = true_false (sym (eq-eqb _ _ e) ∙ any_none (same_id s.kinds k) k j (a.kind_sound k K).id_new l)

-- the volume of a line of kind j
pub line_of_kind : (s : Sheet) → Accepted s → (i j : ℕ) → j < s.many.kinds → (kind_at s j).id ≡ (line_at s i).id
    → line_volume s.kinds s.many.kinds s.lines i ≡ solid_of (kind_at s j).size
unfolding line_volume solid_if solid_named
line_of_kind s a i j J e =
    one_sum (solid_if s.kinds (line_at s i).id) s.many.kinds j J (λ k K d. other k K d)
    ∙ ap (λ (b : Bool). when b (solid_of (kind_at s j).size)) (eq-eqb _ _ e)
  where
    other : (k : ℕ) → k < s.many.kinds → (k ≢ j) → solid_if s.kinds (line_at s i).id k ≡ 0
    other k K d = ap (λ (b : Bool). when b (solid_of (kind_at s k).size)) (ne_eqb _ _ (λ f. apart (f ∙ sym e)))
      where
        apart : (kind_at s k).id ≡ (kind_at s j).id → ⊥
        apart f = ⊎_elim (λ (l : k < j). differ s a k j J l f) (λ (l : j < k). differ s a j k K l (sym f)) (before_or_after k j d)

-- and of a line of an unknown kind
pub line_of_none : (s : Sheet) (i : ℕ) → ((k : ℕ) → k < s.many.kinds → (kind_at s k).id ≢ (line_at s i).id)
    → line_volume s.kinds s.many.kinds s.lines i ≡ 0
unfolding line_volume solid_if solid_named
line_of_none s i h =
    none_sum (solid_if s.kinds (line_at s i).id) s.many.kinds
    (λ k K. ap (λ (b : Bool). when b (solid_of (kind_at s k).size)) (ne_eqb _ _ (h k K)))

-- ---- a line's volume is at most one kind's

-- a sum of which one number at most is not 0 is at most the bound of each
most_sum : (g : ℕ → ℕ) (n b : ℕ) → ((k : ℕ) → k < n → g k ≤ b) → ((j k : ℕ) → k < n → j < k → (g j ≡ 0) ⊎ (g k ≡ 0)) → sum_below g n ≤ b
unfolding sum_below
most_sum g zero b h d = zero-le
most_sum g (suc n) b h d =
    ⊎_elim
    (λ (z : g n ≡ 0). let s = most_sum g n b (λ k l. h k (omega arith)) (λ j k l m. d j k (omega arith) m) in omega arith)
    (λ (o : g n ≡ 0 → ⊥).
    let s = none_sum g n (λ j l. ⊎_elim (λ e. e) (λ e. absurd (o e)) (d j n (omega arith) l)) in
    let t = h n (omega arith) in
    omega arith)
    (none_or_some (g n))
  where
    none_or_some : (v : ℕ) → (v ≡ 0) ⊎ (v ≢ 0)
    none_or_some zero = inl refl
    none_or_some (suc v) = inr (λ e. omega arith)

pub line_most : (s : Sheet) → Accepted s → (i : ℕ) → line_volume s.kinds s.many.kinds s.lines i ≤ most_solid
unfolding line_volume solid_if solid_named
line_most s a i = most_sum (solid_if s.kinds (line_at s i).id) s.many.kinds most_solid (λ k l. small k) (λ j k K l. one_of j k K l)
  where
    small : (k : ℕ) → solid_if s.kinds (line_at s i).id k ≤ most_solid
    small k = when_most ((kind_at s k).id == (line_at s i).id) (solid_most (kind_at s k).size)

    one_of : (j k : ℕ) → k < s.many.kinds → j < k → (solid_if s.kinds (line_at s i).id j ≡ 0) ⊎ (solid_if s.kinds (line_at s i).id k ≡ 0)
    one_of j k K l = go ((kind_at s j).id == (line_at s i).id) ((kind_at s k).id == (line_at s i).id) refl refl
      where
        go : (p q : Bool) → ((kind_at s j).id == (line_at s i).id) ≡ p → ((kind_at s k).id == (line_at s i).id) ≡ q
            → (solid_if s.kinds (line_at s i).id j ≡ 0) ⊎ (solid_if s.kinds (line_at s i).id k ≡ 0)
        go false q e f = inl (rw e)
        go true false e f = inr (rw f)
        go true true e f = absurd (differ s a j k K l (eqb-true _ _ e ∙ sym (eqb-true _ _ f)))
