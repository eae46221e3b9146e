-- The stored points as a multiset: after a placement the old ones less the chosen plus the kept new ones; with none passing they stay.
use Rattle.std.specs.Prelude.{◌≡◌, refl, Bool, true, false, cond, eqb, set, Float, Some, Ok}
use Rattle.std.proofs.Common.{length-set, get_or-set_same, get_or-set_other}
use Rattle.std.proofs.Common.{sym, ◌∙◌, ⊎_elim, eq-or-lt_of_le, le_of_suc-le-suc, not-suc-le-zero, add-one, eqb-true}
use mathlib.Core.List.{List, [], ◌∷◌, Permᴰ}
use Prim.Native.Nat.{ℕ, zero, suc, ◌+◌, ◌-◌, ◌*◌, ◌<◌, ◌≤◌}
use native.Mathlib.Omega.{arith}
use Rattle.std.proofs.Math.ListN.{length}
use Rattle.floats.specs.Ops.{x, y, z}
use Rattle.floats.specs.Weak.{true_false}
use Rattle.domain.specs.Bounds.{most_boxes}
use Rattle.measures.specs.declared.Kind.{Kind}
use Rattle.measures.specs.Orders.{lengths_in}
use Rattle.point_state.specs.declared.ExtremePointSet.{ExtremePointSet}
use Rattle.point_state.specs.Stores.{most_points, point_in, point_at}
use Rattle.point_place.specs.declared.Tried.{Tried}
use Rattle.lists.specs.Bools.{cond_cases}
use Rattle.point_scan.specs.Choose.{best_of, scan_found}
use Rattle.point_grow.specs.Grow.{Stock, dropped, added, count_with, points_with, count_with_lem, Between, along_x, along_y, along_z, corners_of, stock_by}
use Rattle.point_grow.specs.Grow.{stock_of, after_box}
use Rattle.point_place.specs.Place.{stood, refusal_of, placed_cases, tried_of, ready}
use Rattle.point_laws.specs.Clean.{Clean}
use Rattle.point_laws.specs.Reach.{Reached, reached_clean}

-- the first n points of a store
unfoldable pub first_of : List (List Float) → ℕ → List (List Float)
first_of points zero = []
first_of points (suc n) = point_in points n ∷ first_of points n

abbrev pub points_of : ExtremePointSet → List (List Float)
points_of s = first_of s.points s.live

-- one more where it is kept
abbrev plus : Bool → List Float → List (List Float) → List (List Float)
plus kept at l = cond kept (at ∷ l) l

-- these points with the kept ones of a box of these lengths placed at `at`
abbrev pub with_kept : ExtremePointSet → List Float → List Float → List (List Float) → List (List Float)
with_kept s at size l =
    let new = corners_of s.container s.boxes s.held at size in
    plus new.alongz (along_z new.past at) (plus new.alongy (along_y new.past at) (plus new.alongx (along_x new.past at) l))

-- ---- the stores

first_same : (a b : List (List Float)) (n : ℕ) → ((j : ℕ) → j < n → point_in a j ≡ point_in b j) → first_of a n ≡ first_of b n
unfolding first_of
first_same a b zero h = refl
first_same a b (suc n) h = rw (h n (omega arith), first_same a b n (λ j l. h j (omega arith)))

-- a point stored over another: the same points but for these two
first_put : (points : List (List Float)) (k n : ℕ) (t : List Float) → k < length points → k < n
    → Permᴰ (point_in points k ∷ first_of (set points k t) n) (t ∷ first_of points n)
unfolding first_of
first_put points k zero t room l = absurd (not-suc-le-zero l)
first_put points k (suc n) t room l = ⊎_elim here (λ i. below i (first_put points k n t room i)) (eq-or-lt_of_le (le_of_suc-le-suc l))
  where
    Goal : Type 0
    Goal = Permᴰ (point_in points k ∷ point_in (set points k t) n ∷ first_of (set points k t) n) (t ∷ point_in points n ∷ first_of points n)

    here : k ≡ n → Goal
    here e =
        rw (← e, get_or-set_same points k t [] room, first_same (set points k t) points k (λ j i. get_or-set_other points k j t [] (λ q. omega arith)))
        (mathlib.Core.List.Permᴰ.swap refl refl)

    below : k < n → Permᴰ (point_in points k ∷ first_of (set points k t) n) (t ∷ first_of points n) → Goal
    below i p =
        rw (get_or-set_other points k n t [] (λ q. omega arith))
        (mathlib.Core.List.Permᴰ.trans (mathlib.Core.List.Permᴰ.swap refl refl)
        (mathlib.Core.List.Permᴰ.trans (mathlib.Core.List.Permᴰ.cons refl p) (mathlib.Core.List.Permᴰ.swap refl refl)))

abbrev listed : Stock → List (List Float)
listed s = first_of s.points s.live

-- the chosen point goes, and the last takes its place
drop_perm : (points : List (List Float)) (n k : ℕ) → suc n ≤ most_points → length points ≡ most_points → k < suc n
    → Permᴰ (point_in points k ∷ first_of (set points k (point_in points n)) n) (first_of points (suc n))
unfolding first_of
drop_perm points n k few long l =
    ⊎_elim
    (λ e. rw (e, first_same (set points n (point_in points n)) points n (λ j i. get_or-set_other points n j (point_in points n) [] (λ q. omega arith)))
    (mathlib.Core.List.Permᴰ.refl _))
    (λ i. first_put points k n (point_in points n) (rw long (omega arith)) i)
    (eq-or-lt_of_le (le_of_suc-le-suc l))

-- a kept point comes
add_list : (s : Stock) (kept : Bool) (at : List Float) → s.live < most_points → length s.points ≡ most_points
    → listed (added kept at s) ≡ plus kept at (listed s)
unfolding count_with points_with first_of
add_list s true at room long =
    rw (
      add-one s.live,
      get_or-set_same s.points s.live at [] (rw long (omega arith)),
      first_same (set s.points s.live at) s.points s.live
          (λ j l. get_or-set_other s.points s.live j at [] (λ q. omega arith)),
    )
add_list s false at room long = refl

add_long : (s : Stock) (kept : Bool) (at : List Float) → length s.points ≡ most_points → length (added kept at s).points ≡ most_points
unfolding points_with
add_long s true at long = length-set s.points s.live at ∙ long
add_long s false at long = long

plus_perm : (p : List Float) (kept : Bool) (at : List Float) (d l : List (List Float)) → Permᴰ (p ∷ d) l → Permᴰ (p ∷ plus kept at d) (plus kept at l)
plus_perm p true at d l h = mathlib.Core.List.Permᴰ.trans (mathlib.Core.List.Permᴰ.swap refl refl) (mathlib.Core.List.Permᴰ.cons refl h)
plus_perm p false at d l h = h

module _ (s : ExtremePointSet) (k : ℕ) (size : List Float) (h : Clean s) (l : k < s.live) (room : s.held < most_boxes) where
  stock_perm : Permᴰ (point_at s k ∷ listed (stock_of s k size)) (with_kept s (point_at s k) size (points_of s))
  unfolding stock_by
  stock_perm =
      let at = point_at s k in
      let new = corners_of s.container s.boxes s.held at size in
      let s₀ : Stock = dropped k (record { live = s.live; points = s.points }) in
      let s₁ : Stock = added new.alongx (along_x new.past at) s₀ in
      let s₂ : Stock = added new.alongy (along_y new.past at) s₁ in
      let b₁ : Between s₀.live s₁.live (s₀.live + 1) = count_with_lem new.alongx s₀.live in
      let b₂ : Between s₁.live s₂.live (s₁.live + 1) = count_with_lem new.alongy s₁.live in
      let f = h.few in
      let n₀ : length s₀.points ≡ most_points = length-set s.points k _ ∙ h.points_long in
      let n₁ : length s₁.points ≡ most_points = add_long s₀ new.alongx (along_x new.past at) n₀ in
      let n₂ : length s₂.points ≡ most_points = add_long s₁ new.alongy (along_y new.past at) n₁ in
      let e : suc (s.live - 1) ≡ s.live = omega arith in
      let p₀ : Permᴰ (at ∷ listed s₀) (points_of s) = rw e at (drop_perm s.points (s.live - 1) k (omega arith) h.points_long (omega arith)) in
      rw (
        add_list s₂ new.alongz (along_z new.past at) (omega arith) n₂,
        add_list s₁ new.alongy (along_y new.past at) (omega arith) n₁,
        add_list s₀ new.alongx (along_x new.past at) (omega arith) n₀,
      )
      (plus_perm at new.alongz _ _ _ (plus_perm at new.alongy _ _ _ (plus_perm at new.alongx _ _ _ p₀)))

-- ---- the place call

-- a box that stands: its point is removed, and the new points that are kept come. RULES: First placer: new points
pub points_after : {s : ExtremePointSet} (kind : Kind) (instance o : ℕ) (at : List Float) → Reached s → (tried_of s kind instance o).answer ≡ Ok (Some at)
    → Permᴰ (at ∷ points_of (tried_of s kind instance o).next) (with_kept s at (lengths_in kind o) (points_of s))
unfolding tried_of best_of after_box
points_after {s} kind instance o at r =
    let size = lengths_in kind o in
    cond_cases (λ (t : Tried). t.answer ≡ Ok (Some at) → Permᴰ (at ∷ points_of t.next) (with_kept s at size (points_of s)))
    (eqb (refusal_of s.live s.held kind) 0)
    (λ e.
    placed_cases (λ (t : Tried). t.answer ≡ Ok (Some at) → Permᴰ (at ∷ points_of t.next) (with_kept s at size (points_of s))) s _ size (best_of s size)
    (λ k f q. let a : point_at s k ≡ at = cc in
    rw (← a) (stock_perm s k size (reached_clean r) (scan_found _ s.points s.live k f) (ready _ _ kind (eqb-true _ 0 e)).room))
    (λ _ q. absurd cc))
    (λ _ q. absurd cc)

-- with none passing the points and the boxes stay. They stay as they are, in every state and on a refusal too.
pub points_stay : (s : ExtremePointSet) (kind : Kind) (instance o : ℕ) → stood (tried_of s kind instance o).answer ≡ false
    → (tried_of s kind instance o).next ≡ s
unfolding tried_of
points_stay s kind instance o =
    cond_cases (λ (t : Tried). stood t.answer ≡ false → t.next ≡ s) (eqb (refusal_of s.live s.held kind) 0)
    (λ _. placed_cases (λ (t : Tried). stood t.answer ≡ false → t.next ≡ s) s _ _ (best_of s (lengths_in kind o)) (λ _ _ q. true_false q) (λ _ _. refl))
    (λ _ _. refl)
