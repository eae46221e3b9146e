-- The boxes of a state in range, and one box more. That those of every state that the extreme-point placer makes are stands in proofs/Points.antt.
use Rattle.std.specs.Prelude.{◌≡◌, refl, Bool, true, false, not, List, ℕ, ◌+◌, ◌<◌, get_or, set, Float}
use Rattle.std.proofs.Common.{sym, not-suc-le-zero, arith}
use Rattle.domain.specs.Bounds.{most_boxes}
use Rattle.lists.specs.Bools.{and_left}
use Rattle.measures.specs.declared.Container.{Container}
use Rattle.measures.specs.Faults.{container_fault}
use Rattle.point_state.specs.declared.ExtremePointSet.{ExtremePointSet}
use Rattle.point_state.specs.declared.Label.{Label}
use Rattle.point_state.specs.declared.Spot.{Spot}
use Rattle.point_state.specs.Stores.{no_spot, point_at, position_at, sum3, set_keeps}
use Rattle.point_state.specs.Fresh.{start_of, fresh_state}
use Rattle.point_fit.specs.Fit.{room_of, in_room}
use Rattle.point_scan.specs.Passes.{fits_at}
use Rattle.point_grow.specs.Grow.{after_box}
use Rattle.point_laws.specs.Clean.{Clean}
use Rattle.plan_laws.specs.Spots.{InRange}

pub not_false : (b : Bool) → not b ≡ true → b ≡ false
not_false true e = sym e
not_false false e = refl

-- ---- the boxes of a state

pub record Housed (s : ExtremePointSet) : Type 0 where
  pub container_right : container_fault s.container ≡ false
  pub range : (i : ℕ) → i < s.held → InRange (position_at s i)

-- one box more
pub settled_housed : (s : ExtremePointSet) (k : ℕ) (label : Label) (size : List Float) → Clean s → s.held < most_boxes → InRange (point_at s k) → Housed s
    → Housed (after_box s k label size)
unfolding after_box
settled_housed s k label size c room new h = record { container_right = h.container_right; range = λ i l. box i l }
  where
    spot : Spot
    spot = record { position = point_at s k; dimensions = size }

    box : (i : ℕ) → i < s.held + 1 → InRange (get_or (set s.boxes s.held spot) i no_spot).position
    box i l = set_keeps (λ (b : Spot). InRange b.position) s.boxes s.held i spot no_spot (rw c.boxes_long room) new (λ d. h.range i (omega (arith, d)))

pub fits_inside : (s : ExtremePointSet) (at size : List Float) → fits_at s at size ≡ true → in_room (room_of s.container) at (sum3 at size) ≡ true
unfolding fits_at
fits_inside s at size e = and_left (in_room (room_of s.container) at (sum3 at size)) _ e

pub fresh_housed : (c : Container) → container_fault c ≡ false → Housed (fresh_state c)
unfolding start_of
fresh_housed c e = record { container_right = e; range = λ i l. absurd (not-suc-le-zero l) }
