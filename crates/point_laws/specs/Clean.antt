-- What every state made by the calls keeps: counts within their bounds, whole stores, and no NaN among the stored points.
use Rattle.std.specs.Prelude.{◌≡◌, refl, Bool, true, false, List, [], ℕ, ◌+◌, ◌-◌, ◌*◌, ◌<◌, ◌≤◌, eqb, length, Float}
use Rattle.std.proofs.Common.{◌∙◌, arith, eqb-true}
use Rattle.std.proofs.Math.ListN.{length-set}
use Rattle.std.specs.Float.Ieee.{lt}
use Rattle.floats.specs.Ops.{x, y, z}
use Rattle.floats.specs.Weak.{lt_number_l}
use Rattle.domain.specs.Bounds.{most_boxes}
use Rattle.lists.specs.Bools.{and_left, cond_cases}
use Rattle.measures.specs.declared.Kind.{Kind}
use Rattle.measures.specs.Orders.{lengths_in}
use Rattle.point_state.specs.declared.Label.{Label}
use Rattle.point_place.specs.declared.Tried.{Tried}
use Rattle.point_state.specs.declared.ExtremePointSet.{ExtremePointSet}
use Rattle.point_state.specs.declared.Spot.{Spot}
use Rattle.point_state.specs.Stores.{most_points, point_in, point_at, set_keeps}
use Rattle.point_scan.specs.Choose.{best_of, scan_found}
use Rattle.point_grow.specs.Grow.{Stock, dropped, added, count_with, points_with, count_with_lem, Between, along_x, along_y, corners_of, valid, stock_by}
use Rattle.point_grow.specs.Grow.{stock_of, stock_few, after_box}
use Rattle.point_place.specs.Place.{refusal_of, label_of, placed_cases, tried_of, ready}
use Rattle.point_laws.specs.Least.{Sound}

pub record Clean (s : ExtremePointSet) : Type 0 where
  pub few : s.live ≤ 1 + 2 * s.held
  pub room : s.held ≤ most_boxes
  pub points_long : length s.points ≡ most_points
  pub boxes_long : length s.boxes ≡ most_boxes
  pub labels_long : length s.labels ≡ most_boxes
  pub sound : (j : ℕ) → j < s.live → Sound (point_at s j)

-- ---- the point_place: the store stays whole, and a kept point has no NaN

pub record Whole (s : Stock) : Type 0 where
  pub long : length s.points ≡ most_points
  pub sound : (j : ℕ) → j < s.live → Sound (point_in s.points j)

drop_whole : (s : Stock) (k : ℕ) → k < s.live → s.live ≤ most_points → Whole s → Whole (dropped k s)
drop_whole s k l room h =
    record {
      long = length-set s.points k _ ∙ h.long;
      sound =
          λ j i.
          set_keeps Sound s.points k j (point_in s.points (s.live - 1)) [] (rw h.long (omega arith)) (h.sound (s.live - 1) (omega arith))
          (λ _. h.sound j (omega arith));
    }

add_whole : (s : Stock) (kept : Bool) (at : List Float) → s.live < most_points → (kept ≡ true → Sound at) → Whole s → Whole (added kept at s)
unfolding count_with points_with
add_whole s true at room new h =
    record {
      long = length-set s.points s.live at ∙ h.long;
      sound =
          λ j i. set_keeps Sound s.points s.live j at [] (rw h.long (omega arith)) (new refl) (λ n. h.sound j (omega (arith, n)));
    }
add_whole s false at room new h = h

-- a point is kept only where its moved axis is below the end, and so no NaN
short_of : (boxes : List Spot) (held : ℕ) (ends : List Float) (a b : Float) (at : List Float) → valid boxes held ends (lt a b) at ≡ true → lt a b ≡ true
unfolding valid
short_of boxes held ends a b at e = and_left (lt a b) _ (and_left _ _ e)

module _ (s : ExtremePointSet) (k : ℕ) (size : List Float) (h : Clean s) (l : k < s.live) (room : s.held < most_boxes) where
  stock_whole : Whole (stock_of s k size)
  unfolding stock_by corners_of
  stock_whole =
      let at = point_at s k in
      let new = corners_of s.container s.boxes s.held at size in
      let s₀ : Stock = dropped k (record { live = s.live; points = s.points }) in
      let s₁ : Stock = added new.alongx (along_x new.past at) s₀ in
      let s₂ : Stock = added new.alongy (along_y new.past at) s₁ in
      let b₁ : Between s₀.live s₁.live (s₀.live + 1) = count_with_lem new.alongx s₀.live in
      let b₂ : Between s₁.live s₂.live (s₁.live + 1) = count_with_lem new.alongy s₁.live in
      let p = h.sound k l in
      let h₀ : Whole s₀ = drop_whole _ k l (omega arith) (record { long = h.points_long; sound = h.sound }) in
      let h₁ : Whole s₁ = add_whole s₀ new.alongx _ (omega arith)
      (λ e. record { x_is = lt_number_l _ _ (short_of _ _ _ _ _ _ e); y_is = p.y_is; z_is = p.z_is }) h₀ in
      let h₂ : Whole s₂ = add_whole s₁ new.alongy _ (omega arith)
      (λ e. record { x_is = p.x_is; y_is = lt_number_l _ _ (short_of _ _ _ _ _ _ e); z_is = p.z_is }) h₁ in
      add_whole s₂ new.alongz _ (omega arith) (λ e. record { x_is = p.x_is; y_is = p.y_is; z_is = lt_number_l _ _ (short_of _ _ _ _ _ _ e) }) h₂

  settled_clean : (label : Label) → Clean (after_box s k label size)
  unfolding after_box
  settled_clean label =
      let w = stock_whole in
      let f = stock_few s k size l in
      record {
        few = omega arith;
        room = omega arith;
        points_long = w.long;
        boxes_long = length-set s.boxes s.held _ ∙ h.boxes_long;
        labels_long = length-set s.labels s.held label ∙ h.labels_long;
        sound = w.sound;
      }

-- ---- a place call keeps all of it

pub tried_clean : (s : ExtremePointSet) (kind : Kind) (instance orientation : ℕ) → Clean s → Clean (tried_of s kind instance orientation).next
unfolding tried_of best_of
tried_clean s kind instance orientation h =
    let size = lengths_in kind orientation in
    cond_cases (λ (t : Tried). Clean t.next) (eqb (refusal_of s.live s.held kind) 0)
    (λ e.
    placed_cases (λ (t : Tried). Clean t.next) s (label_of kind instance) size (best_of s size)
    (λ k f. settled_clean s k size h (scan_found _ s.points s.live k f) (ready _ _ kind (eqb-true _ 0 e)).room (label_of kind instance))
    (λ _. h))
    (λ _. h)
