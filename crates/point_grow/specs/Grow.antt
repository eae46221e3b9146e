-- The state after a box has been placed: its point is gone, up to three new ones are stored, and the box stands. RULES: First placer: new points
use Rattle.std.specs.Prelude.{◌≡◌, refl, Bool, true, false, not, cond, ◌&&◌, List, [], ◌∷◌, ℕ, ◌+◌, ◌-◌, ◌<◌, ◌≤◌, ltb, length, set, Float}
use Rattle.std.proofs.Common.{◌∙◌, arith, lt-ltb, length-set}
use Rattle.std.specs.Float.Ieee.{lt}
use Rattle.floats.specs.Ops.{x, y, z}
use Rattle.lists.specs.Bools.{cond_keeps}
use Rattle.measures.specs.declared.Container.{Container}
use Rattle.measures.specs.Asked.{asked_of}
use Rattle.point_state.specs.declared.Label.{Label}
use Rattle.point_state.specs.declared.Spot.{Spot}
use Rattle.point_state.specs.declared.ExtremePointSet.{ExtremePointSet}
use Rattle.point_state.specs.All.{all}
use Rattle.point_state.specs.Stores.{point_in, point_at, spot_in}
use Rattle.point_fit.specs.Ends.{ends_of, past_of, below_ends, buries}
use Rattle.point_grow.specs.declared.Corners.{Corners}

-- ---- which new points are kept

-- the point is in none of the first n boxes
unfoldable pub free : List Spot → ℕ → List Float → Bool
free boxes n at = all (λ i. not (buries (spot_in boxes i).position (spot_in boxes i).dimensions at)) n

-- a new point is kept where every axis is below the ends and no box placed earlier has it strictly inside; `short` says that the moved axis is below,
-- which the Rust tests first
unfoldable pub valid : List Spot → ℕ → List Float → Bool → List Float → Bool
valid boxes held ends short at = (short && below_ends ends at) && free boxes held at

-- the points that move one axis
abbrev pub along_x : List Float → List Float → List Float
along_x past at = x past ∷ y at ∷ z at ∷ []

abbrev pub along_y : List Float → List Float → List Float
along_y past at = x at ∷ y past ∷ z at ∷ []

abbrev pub along_z : List Float → List Float → List Float
along_z past at = x at ∷ y at ∷ z past ∷ []

-- three points follow a box, each moving one axis past it by the distance asked: which of them are kept, and where the moved axes end
unfoldable pub corners_of : Container → List Spot → ℕ → List Float → List Float → Corners
corners_of c boxes held at size =
    let past = past_of at size (asked_of c) in
    let ends = ends_of c in
    record {
      alongx = valid boxes held ends (lt (x past) (x ends)) (along_x past at);
      alongy = valid boxes held ends (lt (y past) (y ends)) (along_y past at);
      alongz = valid boxes held ends (lt (z past) (z ends)) (along_z past at);
      past = past;
    }

-- ---- the stored points

pub record Stock : Type 0 where
  pub live : ℕ
  pub points : List (List Float)

-- the point that took the box is removed: the last point takes its place
abbrev pub dropped : ℕ → Stock → Stock
dropped k s = record { live = s.live - 1; points = set s.points k (point_in s.points (s.live - 1)) }

-- one more point where it is kept: the count and the points after it
unfoldable pub count_with : Bool → ℕ → ℕ
count_with kept n = cond kept (n + 1) n

unfoldable pub points_with : Bool → List (List Float) → ℕ → List Float → List (List Float)
points_with kept points n at = cond kept (set points n at) points

abbrev pub added : Bool → List Float → Stock → Stock
added kept at s = record { live = count_with kept s.live; points = points_with kept s.points s.live at }

abbrev pub grown : Corners → List Float → Stock → Stock
grown n at s =
    added n.alongz (along_z n.past at) (added n.alongy (along_y n.past at) (added n.alongx (along_x n.past at) s))

-- ---- the state

-- the points after a box of these lengths has gone to point k
unfoldable pub stock_by : Container → List Spot → ℕ → ℕ → List (List Float) → ℕ → List Float → Stock
stock_by c boxes held live points k size =
    let at = point_in points k in grown (corners_of c boxes held at size) at (dropped k (record { live = live; points = points }))

-- where there is no point k, no room for two points more, or none for one box more, all stays
unfoldable pub restock_of : Container → List Spot → ℕ → ℕ → List (List Float) → ℕ → List Float → Stock
restock_of c boxes held live points k size =
    let same : Stock = record { live = live; points = points } in
    cond (ltb k live) (cond (ltb (live + 1) (length points)) (cond (ltb held (length boxes)) (stock_by c boxes held live points k size) same) same) same

abbrev pub stock_of : ExtremePointSet → ℕ → List Float → Stock
stock_of s k size = stock_by s.container s.boxes s.held s.live s.points k size

-- a box with its position and its dimensions as box n. Past the store nothing is stored.
abbrev pub put_box : List Spot → ℕ → List Float → List Float → List Spot
put_box boxes n at size = set boxes n (record { position = at; dimensions = size })

-- a box of this label and these lengths placed at point k
unfoldable pub after_box : ExtremePointSet → ℕ → Label → List Float → ExtremePointSet
after_box s k label size =
    record {
      container = s.container;
      live = (stock_of s k size).live;
      held = s.held + 1;
      points = (stock_of s k size).points;
      boxes = put_box s.boxes s.held (point_at s k) size;
      labels = set s.labels s.held label;
    }

-- ---- laws

pub record Between (least n most : ℕ) : Type 0 where
  pub low : least ≤ n
  pub high : n ≤ most

pub count_with_lem : (kept : Bool) (n : ℕ) → Between n (count_with kept n) (n + 1)
unfolding count_with
count_with_lem true n = record { low = omega arith; high = omega arith }
count_with_lem false n = record { low = omega arith; high = omega arith }

-- with such a point, and room
pub restock_in : (c : Container) (boxes : List Spot) (held live : ℕ) (points : List (List Float)) (k : ℕ) (size : List Float) → k < live
    → live + 1 < length points → held < length boxes
    → restock_of c boxes held live points k size ≡ stock_by c boxes held live points k size
unfolding restock_of
restock_in c boxes held live points k size h l r = rw (lt-ltb k live h, lt-ltb (live + 1) (length points) l, lt-ltb held (length boxes) r)

-- one point goes and at most three come
pub stock_few : (s : ExtremePointSet) (k : ℕ) (size : List Float) → k < s.live → (stock_of s k size).live ≤ s.live + 2
unfolding stock_by
stock_few s k size l =
    let new = corners_of s.container s.boxes s.held (point_at s k) size in
    let n₁ = count_with new.alongx (s.live - 1) in
    let n₂ = count_with new.alongy n₁ in
    let b₁ : Between (s.live - 1) n₁ (s.live - 1 + 1) = count_with_lem new.alongx (s.live - 1) in
    let b₂ : Between n₁ n₂ (n₁ + 1) = count_with_lem new.alongy n₁ in
    let b₃ : Between n₂ (count_with new.alongz n₂) (n₂ + 1) = count_with_lem new.alongz n₂ in
    omega arith

-- the stores keep their lengths
pub with_long : (kept : Bool) (points : List (List Float)) (n : ℕ) (at : List Float) → length (points_with kept points n at) ≡ length points
unfolding points_with
with_long kept points n at = cond_keeps (λ (l : List (List Float)). length l ≡ length points) kept (length-set points n at) refl

pub stock_long : (c : Container) (boxes : List Spot) (held live : ℕ) (points : List (List Float)) (k : ℕ) (size : List Float)
    → length (stock_by c boxes held live points k size).points ≡ length points
unfolding stock_by
stock_long c boxes held live points k size = with_long _ _ _ _ ∙ (with_long _ _ _ _ ∙ (with_long _ _ _ _ ∙ length-set points k _))
