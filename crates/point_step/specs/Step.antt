-- The stores after one box. RULES: First placer: run
use Rattle.std.specs.Prelude.{◌≡◌, Bool, true, false, cond, List, ℕ, length, Float, Option, Some, None}
use Rattle.std.proofs.Math.Path.{sym}
use Rattle.measures.specs.declared.Container.{Container}
use Rattle.measures.specs.declared.Kind.{Kind}
use Rattle.measures.specs.Asked.{asked_of}
use Rattle.measures.specs.Orders.{share_of, lengths_in}
use Rattle.point_state.specs.declared.Spot.{Spot}
use Rattle.point_state.specs.Stores.{point_in}
use Rattle.point_fit.specs.declared.Room.{Room}
use Rattle.point_fit.specs.Fit.{room_of}
use Rattle.point_grow.specs.Grow.{Stock, restock_of, put_box}
use Rattle.point_grow.specs.Told.{Stocked}
use Rattle.point_scan.specs.declared.Walls.{Walls}
use Rattle.point_scan.specs.Walls.{walls_in}
use Rattle.point_step.specs.declared.Pick.{Pick}
use Rattle.point_step.specs.declared.Taken.{Taken}
use Rattle.point_step.specs.Pick.{too_heavy, spare, pick_of, pick_hints, PickIs}

-- what a run keeps of a container: the stored points, the placed boxes with their walls, and a hint for each point
pub record Stores : Type 0 where
  pub points : List (List Float)
  pub boxes : List Spot
  pub walls : List Walls
  pub hints : List ℕ

abbrev pub stores : List (List Float) → List Spot → List Walls → List ℕ → Stores
stores points boxes walls hints = record { points = points; boxes = boxes; walls = walls; hints = hints }

-- the stores have room for one box more, beside `held` boxes and `live` points
abbrev pub spare_in : Stores → ℕ → ℕ → Bool
spare_in s live held = spare (length s.points) (length s.boxes) (length s.walls) live held

-- the point and the orientation of a box of this kind, beside `held` boxes of so much mass: none for one that is too heavy, or with no room for a box more
unfoldable pub pick_for : Container → ℕ → ℕ → Float → Kind → Stores → Option Pick
pick_for c live held mass kind s =
    let pick = pick_of (room_of c) s.walls held s.points live kind (length s.hints) (length (share_of kind.rule)) in
    cond (spare_in s live held) (cond (too_heavy c.limit mass kind) None pick) None

unfoldable pub hints_for : Container → ℕ → ℕ → Float → Kind → Stores → List ℕ
hints_for c live held mass kind s =
    let after = pick_hints (room_of c) s.walls held s.points live kind (length s.hints) s.hints (length (share_of kind.rule)) in
    cond (spare_in s live held) (cond (too_heavy c.limit mass kind) s.hints after) s.hints

-- the stores after a pick: the box stands at its point as box `held`, or all stays
module _ (c : Container) (live held : ℕ) (kind : Kind) (s : Stores) where
  unfoldable pub stock_after : Option Pick → Stock
  stock_after (Some p) = restock_of c s.boxes held live s.points p.index (lengths_in kind p.orientation)
  stock_after None = record { live = live; points = s.points }

  unfoldable pub boxes_after : Option Pick → List Spot
  boxes_after (Some p) = put_box s.boxes held (point_in s.points p.index) (lengths_in kind p.orientation)
  boxes_after None = s.boxes

  unfoldable pub walls_after : Option Pick → List Walls
  walls_after (Some p) = walls_in s.walls (boxes_after (Some p)) held (asked_of c)
  walls_after None = s.walls

  -- and what is told: where the box stands, its orientation and the points stored
  unfoldable pub taken_of : Option Pick → Option Taken
  taken_of (Some p) = Some (record { orientation = p.orientation; live = (stock_after (Some p)).live })
  taken_of None = None

-- what one box comes to, r, and the stores t after it
pub record StepIs (c : Container) (live held : ℕ) (mass : Float) (kind : Kind) (s : Stores) (r : Option Taken) (t : Stores) : Type 0 where
  pub taken_is : r ≡ taken_of c live held kind s (pick_for c live held mass kind s)
  pub points_are : t.points ≡ (stock_after c live held kind s (pick_for c live held mass kind s)).points
  pub boxes_are : t.boxes ≡ boxes_after c live held kind s (pick_for c live held mass kind s)
  pub walls_are : t.walls ≡ walls_after c live held kind s (pick_for c live held mass kind s)
  pub hints_are : t.hints ≡ hints_for c live held mass kind s

-- ---- laws: what the parts of the call come to

module _ (c : Container) (live held : ℕ) (mass : Float) (kind : Kind) (s : Stores) where
  pub record Picked (p : Option Pick) (hints : List ℕ) : Type 0 where
    pub pick_is : pick_for c live held mass kind s ≡ p
    pub hints_are : hints_for c live held mass kind s ≡ hints

  pub picked_full : spare_in s live held ≡ false → Picked None s.hints
  unfolding pick_for hints_for
  picked_full e = record { pick_is = rw e; hints_are = rw e }

  pub picked_heavy : spare_in s live held ≡ true → too_heavy c.limit mass kind ≡ true → Picked None s.hints
  unfolding pick_for hints_for
  picked_heavy l e = record { pick_is = rw (l, e); hints_are = rw (l, e) }

  pub picked_by : (room : Room) (n : ℕ) (p : Option Pick) (hints : List ℕ) → spare_in s live held ≡ true → too_heavy c.limit mass kind ≡ false
      → room ≡ room_of c → n ≡ length (share_of kind.rule) → PickIs room s.walls held s.points live kind n s.hints p hints → Picked p hints
  unfolding pick_for hints_for
  picked_by room n p hints l e g m i = record { pick_is = rw (l, e, ← g, ← m) (sym i.pick_is); hints_are = rw (l, e, ← g, ← m) (sym i.hints_are) }

  -- the box does not stand
  pub step_none : (hints : List ℕ) → Picked None hints → StepIs c live held mass kind s None (stores s.points s.boxes s.walls hints)
  unfolding stock_after boxes_after walls_after taken_of
  step_none hints i =
      let q = i.pick_is in
      record { taken_is = rw q; points_are = rw q; boxes_are = rw q; walls_are = rw q; hints_are = sym i.hints_are }

  -- it stands
  pub step_some : (p : Pick) (hints : List ℕ) (size at : List Float) (after : ℕ) (points : List (List Float)) (boxes : List Spot) (walls : List Walls)
      → Picked (Some p) hints → size ≡ lengths_in kind p.orientation → at ≡ point_in s.points p.index
      → Stocked (restock_of c s.boxes held live s.points p.index size) after points → boxes ≡ put_box s.boxes held at size
      → walls ≡ walls_in s.walls boxes held (asked_of c)
      → StepIs c live held mass kind s (Some (record { orientation = p.orientation; live = after })) (stores points boxes walls hints)
  unfolding stock_after boxes_after walls_after taken_of
  step_some p hints size at after points boxes walls i g a k b w =
      let q = i.pick_is in
      record {
        taken_is = rw (q, ← g, k.live_is);
        points_are = rw (q, ← g) k.points_are;
        boxes_are = rw (q, ← g, ← a) b;
        walls_are = rw (q, ← g, ← a, ← b) w;
        hints_are = sym i.hints_are;
      }
