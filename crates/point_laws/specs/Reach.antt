-- Demand 2 for the placer: on every state that the calls make from a fresh one, a box goes to the least stored point that passes, and
-- does not fit exactly when none passes; and such a state never has more than 1 plus twice the boxes placed stored.
use Rattle.std.specs.Prelude.{◌≡◌, refl, Bool, true, false, not, cond, ◌&&◌, ◌||◌, ◌⊎◌, List, [], ◌∷◌, ℕ, ◌+◌, ◌*◌, ◌<◌, ◌≤◌, replicate, Float}
use Rattle.std.specs.Prelude.{Option, Some, None, Ok}
use Rattle.std.proofs.Common.{sym, ◌∙◌, ap, inl, inr, arith, ne_eqb, le-ltb, length-set}
use Rattle.std.proofs.lemmas.List.{length-replicate}
use Rattle.std.specs.Float.Ieee.{le}
use Rattle.floats.specs.Ops.{none, x, y, z, nowhere}
use Rattle.floats.specs.Order.{le_number_l}
use Rattle.floats.specs.Weak.{Number, true_false}
use Rattle.domain.specs.Bounds.{most_boxes}
use Rattle.domain.specs.Ranges.{most, is_length, is_measure, is_limit}
use Rattle.domain.specs.Refusals.{or_else}
use Rattle.lists.specs.Bools.{or_left, or_right, and_left, and_right, not_true_of}
use Rattle.measures.specs.declared.Kind.{Kind}
use Rattle.measures.specs.declared.Container.{Container}
use Rattle.measures.specs.Orders.{lengths_in}
use Rattle.measures.specs.Faults.{kind_fault, container_fault}
use Rattle.point_state.specs.declared.ExtremePointSet.{ExtremePointSet}
use Rattle.point_place.specs.declared.Tried.{Tried}
use Rattle.point_scan.specs.Passes.{fits_at}
use Rattle.point_state.specs.Stores.{most_points, point_at, set_keeps}
use Rattle.point_fit.specs.Sooner.{sooner}
use Rattle.point_scan.specs.Choose.{best_of, scan_found}
use Rattle.point_grow.specs.Grow.{after_box}
use Rattle.point_state.specs.Fresh.{blank, blank_spot, start_of, fresh_state, fresh_of, fresh_fair}
use Rattle.point_state.specs.Counts.{over_counts}
use Rattle.point_place.specs.Place.{refusal_of, label_of, placed_by, tried_of}
use Rattle.point_laws.specs.Least.{Sound, Right, scan_right}
use Rattle.point_laws.specs.Clean.{Clean, tried_clean}

-- ---- the states that the calls make

pub data Reached : ExtremePointSet → Type 0 where
  start : {s : ExtremePointSet} (c : Container) → Ok s ≡ fresh_of c → Reached s
  next : {s : ExtremePointSet} (kind : Kind) (instance orientation : ℕ) → Reached s → Reached (tried_of s kind instance orientation).next

-- an accepted container's margin is a number
margin_number : (c : Container) → container_fault c ≡ false → Number c.margin
unfolding container_fault
margin_number c e =
    let lengths = not (is_length (x c.size)) || (not (is_length (y c.size)) || not (is_length (z c.size))) in
    let rest = not (is_measure c.spacing) || not (is_limit c.limit) in
    let m = not_true_of (is_measure c.margin) (or_left (not (is_measure c.margin)) rest (or_right lengths (not (is_measure c.margin) || rest) e)) in
    let b : le c.margin most ≡ true = and_right (le none c.margin) _ (and_left (le none c.margin && le c.margin most) _ m) in
    le_number_l c.margin most (rw b tt)

start_clean : (c : Container) → container_fault c ≡ false → Clean (fresh_state c)
unfolding start_of
start_clean c fair =
    record {
      few = rw fair (omega arith);
      room = omega arith;
      points_long = length-set (replicate most_points nowhere) 0 (c.margin ∷ c.margin ∷ c.margin ∷ []) ∙ length-replicate most_points nowhere;
      boxes_long = length-replicate most_boxes blank_spot;
      labels_long = length-replicate most_boxes blank;
      sound = λ j l. set_keeps Sound (replicate most_points nowhere) 0 j (c.margin ∷ c.margin ∷ c.margin ∷ []) []
          (rw (length-replicate most_points nowhere) (omega arith)) first (λ n. absurd (n (below j (rw fair at l))));
    }
  where
    first : Sound (c.margin ∷ c.margin ∷ c.margin ∷ [])
    first = let m = margin_number c fair in record { x_is = m; y_is = m; z_is = m }

    below : (j : ℕ) → j < 1 → j ≡ 0
    below j l = omega arith

pub reached_clean : {s : ExtremePointSet} → Reached s → Clean s
reached_clean (start {s} c e) = let f = fresh_fair c s e in rw f.state_is (start_clean c f.in_range)
reached_clean (next {s} kind instance orientation r) = tried_clean s kind instance orientation (reached_clean r)

-- ---- stored points never exceed 1 plus twice the boxes placed, so no run from a fresh state is refused for it. RULES: Numbers that bound it

pub points_bounded : {s : ExtremePointSet} → Reached s → s.live ≤ 1 + 2 * s.held
points_bounded r = (reached_clean r).few

pub never_over : {s : ExtremePointSet} → Reached s → over_counts s.live s.held ≡ false
unfolding over_counts
never_over {s} r =
    let h = reached_clean r in
    rw (le-ltb most_boxes s.held h.room, le-ltb (1 + 2 * s.held) s.live h.few)

-- ---- where a box goes

-- `at` is a stored point that passes, and no stored point that passes stands before it
pub record Chosen (s : ExtremePointSet) (size at : List Float) : Type 0 where
  pub index : ℕ
  pub stored : index < s.live
  pub is_at : at ≡ point_at s index
  pub passes : fits_at s at size ≡ true
  pub least : (j : ℕ) → j < s.live → fits_at s (point_at s j) size ≡ true → sooner (point_at s j) at ≡ false

-- no stored point passes
abbrev pub Shut : ExtremePointSet → List Float → Type 0
Shut s size = (j : ℕ) → j < s.live → fits_at s (point_at s j) size ≡ false

-- a box offered in one orientation goes to the least stored point that passes, by height, then depth, then width; it doesn't fit exactly when no stored
-- point passes. RULES: First placer: point test
pub record Answered (s : ExtremePointSet) (size : List Float) (t : Tried) : Type 0 where
  pub either : ((at : List Float) × (t.answer ≡ Ok (Some at))) ⊎ (t.answer ≡ Ok None)
  pub stands : (at : List Float) → t.answer ≡ Ok (Some at) → Chosen s size at
  pub no_room : t.answer ≡ Ok None → Shut s size
  pub shut : Shut s size → t.answer ≡ Ok None

-- by the choice that the scan makes
answered_by : (s : ExtremePointSet) (kind : Kind) (instance orientation : ℕ) → Clean s
    → Answered s (lengths_in kind orientation) (placed_by s (label_of kind instance) (lengths_in kind orientation) (best_of s (lengths_in kind orientation)))
unfolding placed_by best_of
answered_by s kind instance orientation h = go c refl
  where
    size : List Float
    size = lengths_in kind orientation

    c : Option ℕ
    c = best_of s size

    right : Right (λ i. fits_at s (point_at s i) size) s.points s.live c
    right = scan_right _ s.points s.live h.sound

    go : (d : Option ℕ) → c ≡ d → Answered s size (placed_by s (label_of kind instance) size d)
    go (Some k) e =
        record {
          either = inl (point_at s k, refl);
          stands = λ at q. let a : point_at s k ≡ at = cc in rw (← a) (record {
            index = k;
            stored = scan_found _ s.points s.live k e;
            is_at = refl;
            passes = right.passing k e;
            least = right.least k e;
          });
          no_room = λ q. absurd cc;
          shut = λ g. true_false (sym (right.passing k e) ∙ g k (scan_found _ s.points s.live k e));
        }
    go None e =
        record {
          either = inr refl;
          stands = λ at q. absurd cc;
          no_room = λ _. right.absent e;
          shut = λ _. refl;
        }

pub place_right : {s : ExtremePointSet} (kind : Kind) (instance orientation : ℕ) → Reached s → s.held < most_boxes → kind_fault kind false ≡ 0
    → Answered s (lengths_in kind orientation) (tried_of s kind instance orientation)
unfolding tried_of refusal_of or_else
place_right {s} kind instance orientation r room e =
    rw (never_over r, e, ne_eqb s.held most_boxes (λ q. omega arith)) (answered_by s kind instance orientation (reached_clean r))
