-- Stores that are shorter than those of a state: padded to their length, a step over them is a step over those. RULES: First placer: run
use Rattle.std.specs.Prelude.{◌≡◌, refl, Bool, List, [], ◌++◌, ℕ, ◌+◌, ◌-◌, ◌≤◌, ◌<◌, get_or, set, replicate, Float, Option, Some, None}
use Rattle.std.proofs.Common.{sym, ◌∙◌, ap, arith, length-set, length-append}
use Rattle.std.proofs.Math.Bool.{true, false}
use Rattle.std.proofs.Math.ListN.{length, get_or-append}
use Rattle.std.proofs.lemmas.List.{length-replicate, replicate-append-replicate, set-append_left}
use Rattle.floats.specs.Ops.{nowhere}
use Rattle.domain.specs.Bounds.{most_boxes}
use Rattle.lists.specs.Bools.{cond_cases}
use Rattle.measures.specs.declared.Container.{Container}
use Rattle.measures.specs.declared.Kind.{Kind}
use Rattle.measures.specs.Asked.{asked_of}
use Rattle.measures.specs.Orders.{share_of, lengths_in}
use Rattle.point_state.specs.declared.Spot.{Spot}
use Rattle.point_state.specs.All.{all_same}
use Rattle.point_state.specs.Fresh.{blank_spot}
use Rattle.point_state.specs.Stores.{most_points, point_in, no_spot, spot_in, sum3}
use Rattle.point_fit.specs.declared.Room.{Room}
use Rattle.point_fit.specs.Fit.{room_of}
use Rattle.point_grow.specs.Grow.{free, valid, corners_of, count_with, points_with, count_with_lem, with_long, stock_by, restock_in}
use Rattle.point_scan.specs.declared.Walls.{Walls}
use Rattle.point_scan.specs.Passes.{apart_from, none_blocks, passes_by, no_walls}
use Rattle.point_scan.specs.Choose.{scan_alike}
use Rattle.point_scan.specs.Walls.{InStores, scan_of, scanned_in, walls_by, blank_walls, put_walls, walls_in_lem}
use Rattle.point_step.specs.declared.Pick.{Pick}
use Rattle.point_step.specs.declared.Taken.{Taken}
use Rattle.point_step.specs.Pick.{too_heavy, Spare, spare_in_lem, choice_in, pick_of, pick_same, pick_stored}
use Rattle.point_step.specs.Step.{Stores, stores, StepIs, pick_for, hints_for, stock_after, boxes_after, walls_after, taken_of}

-- a store padded to n rows
unfoldable pub wide : {A : Type 0} → ℕ → A → List A → List A
wide n d v = v ++ replicate (n - length v) d

-- each padded to the length of a state's
abbrev pub wide_points : List (List Float) → List (List Float)
wide_points v = wide most_points nowhere v

abbrev pub wide_boxes : List Spot → List Spot
wide_boxes v = wide most_boxes blank_spot v

abbrev pub wide_walls : List Walls → List Walls
wide_walls v = wide most_boxes blank_walls v

-- ---- laws: as long as a state's store, with the same rows, stored alike

module _ {A : Type 0} (n : ℕ) (d : A) where
  pub wide_long : (v : List A) → length v ≤ n → length (wide n d v) ≡ n
  unfolding wide
  wide_long v h = length-append v _ ∙ (ap (λ (k : ℕ). length v + k) (length-replicate (n - length v) d) ∙ omega arith)

  pub wide_blank : (k : ℕ) → k ≤ n → wide n d (replicate k d) ≡ replicate n d
  unfolding wide
  wide_blank k h =
      let e : length (replicate k d) ≡ k = length-replicate k d in
      let f : k + (n - length (replicate k d)) ≡ n = omega arith in
      replicate-append-replicate k _ d ∙ ap (λ (m : ℕ). replicate m d) f

  pub wide_at : (v : List A) (i : ℕ) (o : A) → i < length v → get_or (wide n d v) i o ≡ get_or v i o
  unfolding wide
  wide_at v i o h = get_or-append v (replicate (n - length v) d) o i h

  pub set_wide : (v : List A) (i : ℕ) (a : A) → i < length v → set (wide n d v) i a ≡ wide n d (set v i a)
  unfolding wide
  set_wide v i a h = set-append_left v _ i a h ∙ rw (length-set v i a)

-- the rows of a state's stores
pub point_wide : (points : List (List Float)) (i : ℕ) → i < length points → point_in (wide_points points) i ≡ point_in points i
point_wide points i h = wide_at most_points nowhere points i [] h

pub spot_wide : (boxes : List Spot) (i : ℕ) → i < length boxes → spot_in (wide_boxes boxes) i ≡ spot_in boxes i
spot_wide boxes i h = wide_at most_boxes blank_spot boxes i no_spot h

-- ---- the points and boxes after a box

free_wide : (boxes : List Spot) (n : ℕ) (at : List Float) → n ≤ length boxes → free (wide_boxes boxes) n at ≡ free boxes n at
unfolding free
free_wide boxes n at h = all_same _ _ n (λ i l. rw (spot_wide boxes i (omega arith)))

corners_wide : (c : Container) (boxes : List Spot) (held : ℕ) (at size : List Float) → held ≤ length boxes
    → corners_of c (wide_boxes boxes) held at size ≡ corners_of c boxes held at size
unfolding corners_of valid
corners_wide c boxes held at size h =
    rw (free_wide boxes held _ h, free_wide boxes held _ h, free_wide boxes held _ h)

with_wide : (kept : Bool) (points : List (List Float)) (n : ℕ) (at : List Float) → n < length points
    → points_with kept (wide_points points) n at ≡ wide_points (points_with kept points n at)
unfolding points_with
with_wide true points n at h = set_wide most_points nowhere points n at h
with_wide false points n at h = refl

-- three points more at most
three_more : (a b d : Bool) (p q r : List Float) (points : List (List Float)) (n : ℕ) → n + 2 < length points
    → points_with d (points_with b (points_with a (wide_points points) n p) (count_with a n) q) (count_with b (count_with a n)) r
    ≡ wide_points (points_with d (points_with b (points_with a points n p) (count_with a n) q) (count_with b (count_with a n)) r)
three_more a b d p q r points n h =
    let one = points_with a points n p in
    let two = points_with b one (count_with a n) q in
    let long : length one ≡ length points = with_long a points n p in
    let longer : length two ≡ length points = with_long b one (count_with a n) q ∙ long in
    let i = count_with_lem a n in
    let j = count_with_lem b (count_with a n) in
    let e = with_wide a points n p (omega arith) in
    let f = with_wide b one (count_with a n) q (let k = i.high in omega arith) in
    let g = with_wide d two (count_with b (count_with a n)) r (let k = i.high in let m = j.high in omega arith) in
    rw (e, f, g)

stock_wide : (c : Container) (boxes : List Spot) (held live : ℕ) (points : List (List Float)) (k : ℕ) (size : List Float) → k < live
    → live + 1 < length points → held ≤ length boxes
    → stock_by c (wide_boxes boxes) held live (wide_points points) k size
    ≡ record { live = (stock_by c boxes held live points k size).live; points = wide_points (stock_by c boxes held live points k size).points }
unfolding stock_by
stock_wide c boxes held live points k size l h b =
    let tail = point_in points (live - 1) in
    let long : length (set points k tail) ≡ length points = length-set points k tail in
    let new = corners_of c boxes held (point_in points k) size in
    rw (
      point_wide points k (omega arith),
      point_wide points (live - 1) (omega arith),
      set_wide most_points nowhere points k tail (omega arith),
      corners_wide c boxes held (point_in points k) size b,
      three_more new.alongx new.alongy new.alongz _ _ _ (set points k tail) (live - 1) (omega arith),
    )

put_walls_wide : (walls : List Walls) (boxes : List Spot) (i : ℕ) (s : Float) → i < length walls → i < length boxes
    → put_walls (wide_walls walls) (wide_boxes boxes) i s ≡ wide_walls (put_walls walls boxes i s)
put_walls_wide walls boxes i s h b = rw (spot_wide boxes i b) (set_wide most_boxes blank_walls walls i (walls_by (spot_in boxes i) s) h)

-- ---- the pick

passes_wide : (room : Room) (walls : List Walls) (held : ℕ) (at size : List Float) → held ≤ length walls
    → passes_by room (wide_walls walls) held at size ≡ passes_by room walls held at size
unfolding none_blocks
passes_wide room walls held at size h =
    rw (all_same (apart_from (wide_walls walls) at (sum3 at size)) (apart_from walls at (sum3 at size)) held
    (λ i l. rw (wide_at most_boxes blank_walls walls i no_walls (omega arith))))

scan_wide : (room : Room) (walls : List Walls) (held : ℕ) (size : List Float) (points : List (List Float)) (live : ℕ) → live ≤ length points
    → held ≤ length walls → scan_of room (wide_walls walls) held size (wide_points points) live ≡ scan_of room walls held size points live
unfolding scan_of
scan_wide room walls held size points live p h =
    scan_alike _ _ (wide_points points) points live
    (λ i l. rw (point_wide points i (omega arith)) (passes_wide room walls held (point_in points i) size h)) (λ i l. point_wide points i (omega arith))

-- the stores padded, with other hints
abbrev pub wide_in : Stores → List ℕ → Stores
wide_in s hints = stores (wide_points s.points) (wide_boxes s.boxes) (wide_walls s.walls) hints

-- stores that are no longer than a state's, with room for one box more, and a hint for each point
pub record Short (live held : ℕ) (s : Stores) : Type 0 where
  pub points_few : length s.points ≤ most_points
  pub boxes_few : length s.boxes ≤ most_boxes
  pub walls_few : length s.walls ≤ most_boxes
  pub room : Spare (length s.points) (length s.boxes) (length s.walls) live held
  pub hinted : live ≤ length s.hints

module _ (c : Container) (live held : ℕ) (mass : Float) (kind : Kind) (s : Stores) (h : Short live held s) (hints : List ℕ) (more : live ≤ length hints) where
  abbrev w : Stores
  w = wide_in s hints

  points_long : length w.points ≡ most_points
  points_long = wide_long most_points nowhere s.points h.points_few

  boxes_long : length w.boxes ≡ most_boxes
  boxes_long = wide_long most_boxes blank_spot s.boxes h.boxes_few

  walls_long : length w.walls ≡ most_boxes
  walls_long = wide_long most_boxes blank_walls s.walls h.walls_few

  room_wide : Spare (length w.points) (length w.boxes) (length w.walls) live held
  room_wide =
      let r = h.room in
      record {
        counts = r.counts;
        held_in = r.held_in;
        points_in = let a = r.points_in in let b = h.points_few in let d = points_long in omega (arith, a, b, d);
        boxes_in = let a = r.boxes_in in let b = h.boxes_few in let d = boxes_long in omega (arith, a, b, d);
        walls_in_lem = let a = r.walls_in_lem in let b = h.walls_few in let d = walls_long in omega (arith, a, b, d);
      }

  stores_in : (t : Stores) → Spare (length t.points) (length t.boxes) (length t.walls) live held → live ≤ length t.hints
      → InStores (length t.points) (length t.walls) (length t.hints) live held
  stores_in t r l =
      record {
        counts = r.counts;
        points_in = let a = r.points_in in omega (arith, a);
        walls_in_lem = let a = r.walls_in_lem in omega (arith, a);
        hints_in_lem = l;
      }

  choice_wide : (o : ℕ) → choice_in (room_of c) w.walls held w.points live kind (length hints) o
      ≡ choice_in (room_of c) s.walls held s.points live kind (length s.hints) o
  choice_wide o =
      let i = stores_in s h.room h.hinted in
      scanned_in (room_of c) w.walls held (lengths_in kind o) w.points live (length hints) (stores_in w room_wide more)
      ∙ (scan_wide (room_of c) s.walls held (lengths_in kind o) s.points live i.points_in i.walls_in_lem
      ∙ sym (scanned_in (room_of c) s.walls held (lengths_in kind o) s.points live (length s.hints) i))

  pub pick_wide : pick_for c live held mass kind w ≡ pick_for c live held mass kind s
  unfolding pick_for pick_of
  pick_wide =
      rw (spare_in_lem _ _ _ live held room_wide, spare_in_lem _ _ _ live held h.room, pick_same _ _ (length (share_of kind.rule)) choice_wide)

  -- a point that was found is a stored one
  pub pick_in : (p : Pick) → pick_for c live held mass kind s ≡ Some p → p.index < live
  unfolding pick_for
  pick_in p =
      rw (spare_in_lem _ _ _ live held h.room)
      (cond_cases (λ (q : Option Pick). q ≡ Some p → p.index < live) (too_heavy c.limit mass kind) (λ _ e. absurd cc)
      (λ _. pick_stored (room_of c) s.walls held s.points live kind (length s.hints) (length (share_of kind.rule)) p))

  -- ---- the stores after it

  -- where there is a pick, it is of a stored point
  abbrev Stored : Option Pick → Type 0
  Stored q = (p : Pick) → q ≡ Some p → p.index < live

  stocks : (q : Option Pick) → Stored q
      → stock_after c live held kind w q
      ≡ record { live = (stock_after c live held kind s q).live; points = wide_points (stock_after c live held kind s q).points }
  unfolding stock_after
  stocks (Some p) known =
      let i = known p refl in
      let r = h.room in
      let v = room_wide in
      let size = lengths_in kind p.orientation in
      let a = restock_in c w.boxes held live w.points p.index size i v.points_in v.boxes_in in
      let b = restock_in c s.boxes held live s.points p.index size i r.points_in r.boxes_in in
      rw (a, b) (stock_wide c s.boxes held live s.points p.index size i r.points_in (let k = r.boxes_in in omega (arith, k)))
  stocks None known = refl

  told : (q : Option Pick) → Stored q → taken_of c live held kind w q ≡ taken_of c live held kind s q
  unfolding taken_of
  told (Some p) known = rw (stocks (Some p) known)
  told None known = refl

  boxes_then : (q : Option Pick) → Stored q → boxes_after c live held kind w q ≡ wide_boxes (boxes_after c live held kind s q)
  unfolding boxes_after
  boxes_then (Some p) known =
      let i = known p refl in
      let r = h.room in
      let m = r.points_in in
      rw (point_wide s.points p.index (omega (arith, i, m))) (set_wide most_boxes blank_spot s.boxes held _ r.boxes_in)
  boxes_then None known = refl

  walls_then : (q : Option Pick) → Stored q → walls_after c live held kind w q ≡ wide_walls (walls_after c live held kind s q)
  unfolding walls_after boxes_after
  walls_then (Some p) known =
      let boxes = boxes_after c live held kind s (Some p) in
      let same : length boxes ≡ length s.boxes = length-set s.boxes held _ in
      let few = h.boxes_few in
      let m = h.room.boxes_in in
      let long : length (wide_boxes boxes) ≡ most_boxes = wide_long most_boxes blank_spot boxes (omega (arith, few, same)) in
      let bw : held < length (wide_boxes boxes) = omega (arith, few, m, long) in
      let bs : held < length boxes = omega (arith, m, same) in
      rw (boxes_then (Some p) known, walls_in_lem w.walls (wide_boxes boxes) held (asked_of c) bw, walls_in_lem s.walls boxes held (asked_of c) bs)
      (put_walls_wide s.walls boxes held (asked_of c) h.room.walls_in_lem bs)
  walls_then None known = refl

  -- a step over the stores is one over the padded ones
  pub step_wide : (r : Option Taken) (t : Stores) → StepIs c live held mass kind s r t
      → StepIs c live held mass kind w r (wide_in t (hints_for c live held mass kind w))
  step_wide r t i =
      let q = pick_for c live held mass kind s in
      record {
        taken_is = rw (pick_wide, told q pick_in) i.taken_is;
        points_are = rw (pick_wide, stocks q pick_in) (ap wide_points i.points_are);
        boxes_are = rw (pick_wide, boxes_then q pick_in) (ap wide_boxes i.boxes_are);
        walls_are = rw (pick_wide, walls_then q pick_in) (ap wide_walls i.walls_are);
        hints_are = refl;
      }
