-- The walls of the placed boxes, worked out once, the scan by them with its hints, and that it makes the choice of the definition.
-- RULES: First placer: point test
use Rattle.std.specs.Prelude.{◌≡◌, refl, Bool, false, cond, ◌||◌, List, ℕ, zero, suc, ◌<◌, ◌≤◌, ltb, length, get_or, set, replicate, Float}
use Rattle.std.specs.Prelude.{Option, None}
use Rattle.std.proofs.Common.{◌∙◌, not-suc-le-zero, arith, ltb-false, lt-ltb, le-ltb, length-set, get_or-set_same, get_or-set_other}
use Rattle.std.proofs.lemmas.List.{length-replicate}
use Rattle.floats.specs.Ops.{nowhere}
use Rattle.domain.specs.Bounds.{most_boxes}
use Rattle.lists.specs.Below.{upto}
use Rattle.lists.specs.Bools.{or_left, or_right, cond_keeps}
use Rattle.measures.specs.Asked.{asked_of}
use Rattle.point_state.specs.declared.Spot.{Spot}
use Rattle.point_state.specs.declared.ExtremePointSet.{ExtremePointSet}
use Rattle.point_state.specs.All.{all_same}
use Rattle.point_state.specs.Counts.{over_counts, over, Within, within_counts, not_over}
use Rattle.point_state.specs.Stores.{point_in, point_at, spot_in, sum3}
use Rattle.point_fit.specs.declared.Room.{Room}
use Rattle.point_fit.specs.Fit.{room_of, far_wall, near_wall}
use Rattle.point_scan.specs.declared.Walls.{Walls}
use Rattle.point_scan.specs.Passes.{separated, fits_at, none_blocks, passes_by, hint_after, walls_at, no_walls, apart_from}
use Rattle.point_scan.specs.Choose.{asked, takes, scan_by, best_of, scan_same}

-- the walls of a box, by the distance asked
abbrev pub walls_by : Spot → Float → Walls
walls_by b s = record { far = far_wall b.position b.dimensions s; near = near_wall b.position s }

-- the walls of box i stored
abbrev pub put_walls : List Walls → List Spot → ℕ → Float → List Walls
put_walls walls boxes i s = set walls i (walls_by (spot_in boxes i) s)

abbrev pub blank_walls : Walls
blank_walls = record { far = nowhere; near = nowhere }

unfoldable pub walls_of : List Spot → Float → ℕ → List Walls
walls_of boxes s zero = replicate most_boxes blank_walls
walls_of boxes s (suc i) = put_walls (walls_of boxes s i) boxes i s

-- the list has the walls of the first n boxes
pub record Walled (boxes : List Spot) (s : Float) (n : ℕ) (walls : List Walls) : Type 0 where
  pub long : length walls ≡ most_boxes
  pub walls_are : (i : ℕ) → i < n → walls_at walls i ≡ walls_by (spot_in boxes i) s

-- one more box
pub put_walled : (boxes : List Spot) (s : Float) (n : ℕ) (walls : List Walls) → n < most_boxes → Walled boxes s n walls
    → Walled boxes s (suc n) (put_walls walls boxes n s)
put_walled boxes s n walls room w =
    record {
      long = length-set walls n _ ∙ w.long;
      walls_are =
          upto (λ i. walls_at (put_walls walls boxes n s) i ≡ walls_by (spot_in boxes i) s) n
          (λ i b. get_or-set_other walls n i _ no_walls (λ q. omega arith) ∙ w.walls_are i b)
          (get_or-set_same walls n _ no_walls (rw w.long room));
    }

pub walls_walled : (boxes : List Spot) (s : Float) (n : ℕ) → n ≤ most_boxes → Walled boxes s n (walls_of boxes s n)
unfolding walls_of
walls_walled boxes s zero h = record { long = length-replicate most_boxes blank_walls; walls_are = λ i l. absurd (not-suc-le-zero l) }
walls_walled boxes s (suc n) h = put_walled boxes s n (walls_of boxes s n) (omega arith) (walls_walled boxes s n (omega arith))

-- a box past the boxes has no walls, and past the walls none are stored
unfoldable pub walls_in : List Walls → List Spot → ℕ → Float → List Walls
walls_in walls boxes i s = cond (ltb i (length boxes)) (put_walls walls boxes i s) walls

pub walls_in_lem : (walls : List Walls) (boxes : List Spot) (i : ℕ) (s : Float) → i < length boxes → walls_in walls boxes i s ≡ put_walls walls boxes i s
unfolding walls_in
walls_in_lem walls boxes i s h = rw (lt-ltb i (length boxes) h)

-- ---- the scan by the walls: the choice, and the hints after it

-- the choice among the first n points
unfoldable pub scan_of : Room → List Walls → ℕ → List Float → List (List Float) → ℕ → Option ℕ
scan_of room walls held size points n = scan_by (λ i. passes_by room walls held (point_in points i) size) points n

-- the hints after point i
unfoldable pub hints_with : Room → List Walls → ℕ → List Float → List (List Float) → ℕ → Option ℕ → List ℕ → List ℕ
hints_with room walls held size points i c hints =
    cond (asked points (point_in points i) c) (set hints i (hint_after room walls held (get_or hints i 0) (point_in points i) size)) hints

unfoldable pub hints_of : Room → List Walls → ℕ → List Float → List (List Float) → List ℕ → ℕ → List ℕ
hints_of room walls held size points hints zero = hints
hints_of room walls held size points hints (suc i) =
    hints_with room walls held size points i (scan_of room walls held size points i) (hints_of room walls held size points hints i)

-- what the calls answer, and the hints that they leave

pub record TakesIs (room : Room) (walls : List Walls) (held : ℕ) (size : List Float) (points : List (List Float)) (i : ℕ) (c : Option ℕ)
    (hints : List ℕ) (r : Bool) (after : List ℕ) : Type 0 where
  pub takes_is : r ≡ takes (passes_by room walls held (point_in points i) size) points i c
  pub hints_are : after ≡ hints_with room walls held size points i c hints

pub record ScanIs (room : Room) (walls : List Walls) (held : ℕ) (size : List Float) (points : List (List Float)) (live : ℕ) (hints : List ℕ) (r : Option ℕ)
    (after : List ℕ) : Type 0 where
  pub choice_is : r ≡ scan_of room walls held size points live
  pub hints_are : after ≡ hints_of room walls held size points hints live

-- the counts are over the bounds, or over stores of so many rows
unfoldable pub over_stores : (points walls hints live held : ℕ) → Bool
over_stores points walls hints live held = over_counts live held || (ltb points live || (ltb walls held || ltb hints live))

-- such counts, where m is the number of hints: no point, and the hints stay
unfoldable pub scanned_of : Room → List Walls → ℕ → List Float → List (List Float) → ℕ → ℕ → Option ℕ
scanned_of room walls held size points live m =
    cond (over_stores (length points) (length walls) m live held) None (scan_of room walls held size points live)

unfoldable pub hints_in : Room → List Walls → ℕ → List Float → List (List Float) → List ℕ → ℕ → List ℕ
hints_in room walls held size points hints live =
    cond (over_stores (length points) (length walls) (length hints) live held) hints (hints_of room walls held size points hints live)

pub record ScannedIs (room : Room) (walls : List Walls) (held : ℕ) (size : List Float) (points : List (List Float)) (live : ℕ) (hints : List ℕ) (r : Option ℕ)
    (after : List ℕ) : Type 0 where
  pub choice_is : r ≡ scanned_of room walls held size points live (length hints)
  pub hints_are : after ≡ hints_in room walls held size points hints live

-- ---- laws on the counts and the hints

pub record InStores (points walls hints live held : ℕ) : Type 0 where
  pub counts : Within live held
  pub points_in : live ≤ points
  pub walls_in_lem : held ≤ walls
  pub hints_in_lem : live ≤ hints

pub in_stores : (points walls hints live held : ℕ) → over_stores points walls hints live held ≡ false → InStores points walls hints live held
unfolding over_stores
in_stores points walls hints live held e =
    let a = or_right (over_counts live held) _ e in
    let b = or_right (ltb points live) _ a in
    record {
      counts = within_counts live held (or_left (over_counts live held) _ e);
      points_in = ltb-false points live (or_left (ltb points live) _ a);
      walls_in_lem = ltb-false walls held (or_left (ltb walls held) _ b);
      hints_in_lem = ltb-false hints live (or_right (ltb walls held) _ b);
    }

pub not_over_stores : (points walls hints live held : ℕ) → InStores points walls hints live held → over_stores points walls hints live held ≡ false
unfolding over_stores
not_over_stores points walls hints live held h =
    rw (not_over live held h.counts, le-ltb points live h.points_in, le-ltb walls held h.walls_in_lem, le-ltb hints live h.hints_in_lem)

pub scanned_in : (room : Room) (walls : List Walls) (held : ℕ) (size : List Float) (points : List (List Float)) (live m : ℕ)
    → InStores (length points) (length walls) m live held → scanned_of room walls held size points live m ≡ scan_of room walls held size points live
unfolding scanned_of
scanned_in room walls held size points live m h = rw (not_over_stores _ _ m live held h)

-- the hints keep their number
with_hints : (room : Room) (walls : List Walls) (held : ℕ) (size : List Float) (points : List (List Float)) (i : ℕ) (c : Option ℕ) (hints : List ℕ)
    → length (hints_with room walls held size points i c hints) ≡ length hints
unfolding hints_with
with_hints room walls held size points i c hints =
    cond_keeps (λ (l : List ℕ). length l ≡ length hints) (asked points (point_in points i) c) (length-set hints i _) refl

pub hints_long : (room : Room) (walls : List Walls) (held : ℕ) (size : List Float) (points : List (List Float)) (hints : List ℕ) (n : ℕ)
    → length (hints_of room walls held size points hints n) ≡ length hints
unfolding hints_of
hints_long room walls held size points hints zero = refl
hints_long room walls held size points hints (suc n) =
    with_hints room walls held size points n _ _ ∙ hints_long room walls held size points hints n

pub hints_in_long : (room : Room) (walls : List Walls) (held : ℕ) (size : List Float) (points : List (List Float)) (hints : List ℕ) (live : ℕ)
    → length (hints_in room walls held size points hints live) ≡ length hints
unfolding hints_in
hints_in_long room walls held size points hints live =
    cond_keeps (λ (l : List ℕ). length l ≡ length hints) (over_stores (length points) (length walls) (length hints) live held) refl
    (hints_long room walls held size points hints live)

-- the choice of a state, and none of one whose counts are over the bounds
unfoldable pub best_in : ExtremePointSet → List Float → Option ℕ
best_in s size = cond (over s) None (best_of s size)

pub best_in_lem : (s : ExtremePointSet) (size : List Float) → over s ≡ false → best_in s size ≡ best_of s size
unfolding best_in
best_in_lem s size e = rw e

-- ---- it is the choice of the definition

module _ (s : ExtremePointSet) (walls : List Walls) (size : List Float) (w : Walled s.boxes (asked_of s.container) s.held walls) where
  pub walled_fits : (at : List Float) → passes_by (room_of s.container) walls s.held at size ≡ fits_at s at size
  unfolding fits_at none_blocks separated
  walled_fits at =
      rw (all_same (apart_from walls at (sum3 at size)) (separated s at (sum3 at size)) s.held (λ i l. rw (w.walls_are i l)))

  pub walled_best : scan_of (room_of s.container) walls s.held size s.points s.live ≡ best_of s size
  unfolding scan_of best_of
  walled_best = scan_same _ s.points _ s.live (λ i. walled_fits (point_at s i))
