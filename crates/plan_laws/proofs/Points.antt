-- The boxes of a state that the extreme-point placer makes are in range: a box stands only at a point that passed.
use Rattle.std.specs.Prelude.{◌≡◌, true, false, not, ◌||◌, List, ℕ, eqb, Float}
use Rattle.std.proofs.Common.{eqb-true}
use Rattle.std.specs.Float.Ieee.{lt}
use Rattle.floats.specs.Ops.{x, y, z, ◌⊕◌, ◌⊖◌}
use Rattle.lists.specs.Bools.{or_left, or_right, and_left, and_right, cond_cases}
use Rattle.measures.specs.declared.Container.{Container}
use Rattle.measures.specs.declared.Kind.{Kind}
use Rattle.measures.specs.Orders.{lengths_in}
use Rattle.point_state.specs.Fresh.{fresh_fair}
use Rattle.point_state.specs.declared.ExtremePointSet.{ExtremePointSet}
use Rattle.domain.specs.Ranges.{slack}
use Rattle.point_state.specs.Stores.{point_at, sum3}
use Rattle.point_place.specs.declared.Tried.{Tried}
use Rattle.point_fit.specs.Fit.{room_of, in_room}
use Rattle.point_scan.specs.Passes.{fits_at}
use Rattle.point_scan.specs.Choose.{best_of, scan_found}
use Rattle.point_place.specs.Place.{refusal_of, label_of, placed_cases, tried_of, ready}
use Rattle.point_laws.specs.Least.{Sound, scan_right}
use Rattle.point_laws.specs.Clean.{Clean}
use Rattle.point_laws.specs.Reach.{Reached, start, next, reached_clean}
use Rattle.plan_laws.specs.Spots.{Lengths, lengths_in_lem, kind_measures, Sized, sized, InRange}
use Rattle.plan_laws.specs.Points.{not_false, Housed, settled_housed, fits_inside, fresh_housed}
use Rattle.plan_laws.proofs.Spots.{point_axis}

module _ (c : Container) (s : Sized c) (at size : List Float) (p : Sound at) (l : Lengths size) where
  inside_range : in_room (room_of c) at (sum3 at size) ≡ true → InRange at
  unfolding in_room
  inside_range e =
      let r = room_of c in
      let least = c.margin ⊖ slack in
      let near = lt (x at) least || (lt (y at) least || lt (z at) least) in
      let far = lt (x r.most) (x at ⊕ x size) || (lt (y r.most) (y at ⊕ y size) || lt (z r.most) (z at ⊕ z size)) in
      let a = not_false near (and_left (not near) (not far) e) in
      let b = or_right (lt (x at) least) _ a in
      let f = not_false far (and_right (not near) (not far) e) in
      let g = or_right (lt (x r.most) (x at ⊕ x size)) _ f in
      record {
        x_is =
            point_axis (x c.size) c.margin (x at) (x size) s.lengths.x_is s.margin p.x_is l.x_is (or_left (lt (x at) least) _ a)
            (or_left (lt (x r.most) (x at ⊕ x size)) _ f);
        y_is =
            point_axis (y c.size) c.margin (y at) (y size) s.lengths.y_is s.margin p.y_is l.y_is (or_left (lt (y at) least) _ b)
            (or_left (lt (y r.most) (y at ⊕ y size)) _ g);
        z_is =
            point_axis (z c.size) c.margin (z at) (z size) s.lengths.z_is s.margin p.z_is l.z_is (or_right (lt (y at) least) _ b)
            (or_right (lt (y r.most) (y at ⊕ y size)) _ g);
      }

tried_housed : (s : ExtremePointSet) (kind : Kind) (instance orientation : ℕ) → Clean s → Housed s → Housed (tried_of s kind instance orientation).next
unfolding tried_of best_of
tried_housed s kind instance orientation c h =
    let size = lengths_in kind orientation in
    cond_cases (λ (t : Tried). Housed t.next) (eqb (refusal_of s.live s.held kind) 0)
    (λ e.
    placed_cases (λ (t : Tried). Housed t.next) s (label_of kind instance) size (best_of s size)
    (λ k f.
    let r = ready _ _ kind (eqb-true _ 0 e) in
    let passes : fits_at s (point_at s k) size ≡ true = (scan_right (λ i. fits_at s (point_at s i) size) s.points s.live c.sound).passing k f in
    settled_housed s k (label_of kind instance) size c r.room
    (inside_range s.container (sized s.container h.container_right) (point_at s k) size
    (c.sound k (scan_found _ s.points s.live k f))
    (lengths_in_lem kind orientation (kind_measures kind false r.kind_right))
    (fits_inside s (point_at s k) size passes))
    h)
    (λ _. h))
    (λ _. h)

-- every state that the calls make from a fresh one
pub reached_housed : {s : ExtremePointSet} → Reached s → Housed s
reached_housed (start {s} c e) = let f = fresh_fair c s e in rw f.state_is (fresh_housed c f.in_range)
reached_housed (next {s} kind instance orientation r) = tried_housed s kind instance orientation (reached_clean r) (reached_housed r)
