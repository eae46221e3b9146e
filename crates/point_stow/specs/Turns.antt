-- One box of a run: what the loop keeps of a state, and that its step is the turn that the place calls make.
use Rattle.std.specs.Prelude.{◌≡◌, refl, Bool, Option, Some, None, List, [], ◌∷◌, ℕ, zero, suc, ◌+◌, ◌*◌, ◌≤◌, ◌<◌, get_or, set, replicate, Float}
use Rattle.std.proofs.Math.Path.{sym, ap}
use Rattle.std.proofs.Common.{◌∙◌, le_refl, add-one, arith, length-set, get_or-set_same, get_or-set_other}
use Rattle.std.proofs.Math.Bool.{true, false, cond}
use borrow.Author.Tests.{ne_eqb}
use Rattle.std.proofs.Math.ListN.{length}
use Rattle.std.proofs.lemmas.List.{length-replicate}
use Rattle.floats.specs.Ops.{none, nowhere}
use Rattle.domain.specs.Bounds.{most_boxes}
use Rattle.domain.specs.Refusals.{or_else}
use Rattle.measures.specs.declared.Kind.{Kind}
use Rattle.measures.specs.declared.Container.{Container}
use Rattle.measures.specs.Asked.{asked_of}
use Rattle.measures.specs.Orders.{share_of, lengths_in}
use Rattle.measures.specs.Faults.{kind_fault}
use Rattle.sheet.specs.Sheets.{no_kind}
use Rattle.plan_boxes.specs.declared.Instance.{Instance}
use Rattle.plan_boxes.specs.Listing.{no_instance}
use Rattle.point_state.specs.declared.Label.{Label}
use Rattle.point_state.specs.declared.ExtremePointSet.{ExtremePointSet}
use Rattle.point_state.specs.declared.Spot.{Spot}
use Rattle.point_state.specs.Stores.{most_points, no_spot}
use Rattle.point_state.specs.Fresh.{blank, blank_spot, start_of}
use Rattle.point_state.specs.Boxes.{no_label, mass_with, mass_below}
use Rattle.point_state.specs.Counts.{over_counts, not_over}
use Rattle.point_fit.specs.Fit.{room_of}
use Rattle.point_grow.specs.Grow.{put_box, after_box, stock_few, stock_long, restock_in}
use Rattle.point_scan.specs.Choose.{best_of, scan_found}
use Rattle.point_scan.specs.declared.Walls.{Walls}
use Rattle.point_scan.specs.Walls.{Walled, blank_walls, walls_of, walls_walled, put_walls, put_walled, walls_in_lem, InStores, scanned_in, walled_best}
use Rattle.point_place.specs.Place.{refusal_of, label_of}
use Rattle.point_step.specs.declared.Pick.{Pick}
use Rattle.point_step.specs.declared.Taken.{Taken}
use Rattle.point_step.specs.Pick.{too_heavy, Spare, spare_in_lem, pick_of, pick_by, choice_in, pick_same, pick_index}
use Rattle.point_step.specs.Step.{Stores, stores, StepIs, pick_for, stock_after, boxes_after, walls_after, taken_of}
use Rattle.point_stow.specs.Stow.{Stowed, Attempt, attempt_of, after_attempt, turn_of, stowed_by}
use Rattle.point_stow.specs.Agrees.{picked_of, Agrees, attempt_agrees}

-- ---- what the loop keeps of a state: counts within their bounds, stores of their full length, the walls of its boxes, and their mass

pub record Steady (s : ExtremePointSet) (walls : List Walls) (mass : Float) : Type 0 where
  pub room : s.held ≤ most_boxes
  pub few : s.live ≤ 1 + 2 * s.held
  pub walled : Walled s.boxes (asked_of s.container) s.held walls
  pub mass_is : mass ≡ mass_below s.labels s.held
  pub long : length s.labels ≡ most_boxes
  pub points_long : length s.points ≡ most_points
  pub boxes_long : length s.boxes ≡ most_boxes

-- an empty container has no walls and no mass
pub record Empty (s : ExtremePointSet) : Type 0 where
  pub none_held : s.held ≡ 0
  pub steady : Steady s (replicate most_boxes blank_walls) none

pub fresh_empty : (c : Container) (fault : Bool) → Empty (start_of c fault)
unfolding start_of walls_of mass_below
fresh_empty c fault =
    record {
      none_held = refl;
      steady =
          record {
            room = omega arith;
            few = few_of fault;
            walled = walls_walled (replicate most_boxes blank_spot) (asked_of c) 0 (omega arith);
            mass_is = refl;
            long = length-replicate most_boxes blank;
            points_long = length-set (replicate most_points nowhere) 0 (c.margin ∷ c.margin ∷ c.margin ∷ []) ∙ length-replicate most_points nowhere;
            boxes_long = length-replicate most_boxes blank_spot;
          };
    }
  where
    few_of : (b : Bool) → cond b 0 1 ≤ 1 + 2 * 0
    few_of true = omega arith
    few_of false = omega arith

-- a label stored past the first n leaves their mass
mass_other : (labels : List Label) (n k : ℕ) (l : Label) → n ≤ k → mass_below (set labels k l) n ≡ mass_below labels n
unfolding mass_below
mass_other labels zero k l h = refl
mass_other labels (suc n) k l h = rw (mass_other labels n k l (omega arith), get_or-set_other labels k n l no_label (λ e. omega arith))

-- a box stored past the first n leaves their walls
walled_other : (boxes : List Spot) (s : Float) (n : ℕ) (walls : List Walls) (at size : List Float) → Walled boxes s n walls
    → Walled (put_box boxes n at size) s n walls
walled_other boxes s n walls at size w =
    record {
      long = w.long;
      walls_are = λ i l. rw (get_or-set_other boxes n i (record { position = at; dimensions = size }) no_spot (λ e. omega arith)) (w.walls_are i l);
    }

-- a box placed, its walls stored and its mass added
pub steady_next : (s : ExtremePointSet) (walls : List Walls) (mass : Float) (k : ℕ) (label : Label) (size : List Float) → Steady s walls mass → k < s.live
    → s.held < most_boxes
    → Steady (after_box s k label size) (put_walls walls (after_box s k label size).boxes s.held (asked_of s.container))
    (mass_with mass label.mass)
unfolding after_box mass_below
steady_next s walls mass k label size h l r =
    let f = stock_few s k size l in
    let m : s.held < length s.labels = rw h.long r in
    record {
      room = omega arith;
      few = omega arith;
      walled = rw (add-one s.held) (put_walled _ _ s.held walls r (walled_other s.boxes _ s.held walls _ size h.walled));
      mass_is =
          rw (
            add-one s.held,
            mass_other s.labels s.held s.held label (le_refl s.held),
            ← h.mass_is,
            get_or-set_same s.labels
                s.held label no_label m,
          );
      long = length-set s.labels s.held label ∙ h.long;
      points_long = stock_long s.container s.boxes s.held s.live s.points k size ∙ h.points_long;
      boxes_long = length-set s.boxes s.held _ ∙ h.boxes_long;
    }

-- ---- a turn

-- after the pick: the box placed and its orientation noted, or all stays
unfoldable pub turn_by : Option Pick → Kind → ℕ → Stowed → Stowed
turn_by (Some p) kind instance f = record { next = picked_of f.next kind instance p; orientations = set f.orientations f.next.held p.orientation }
turn_by None kind instance f = f

-- by an attempt that agrees with a pick
after_agrees : (kind : Kind) (instance : ℕ) (f : Stowed) (a : Attempt) (q : Option Pick) → Agrees f.next kind instance a q
    → after_attempt a f ≡ turn_by q kind instance f
unfolding turn_by
after_agrees kind instance f a (Some p) h = rw (h.same_found, h.same_next p refl, h.same_orientation p refl)
after_agrees kind instance f a None h = rw h.same_found

-- one item more
pub stow_more : (s : ExtremePointSet) (kinds : List Kind) (items : List Instance) (i : ℕ) (f : Stowed) → f ≡ stowed_by s kinds items i
    → stowed_by s kinds items (i + 1) ≡ turn_of (get_or kinds (get_or items i no_instance).kind no_kind) (get_or items i no_instance).instance f
unfolding stowed_by
stow_more s kinds items i f e = rw (add-one, ← e)

-- ---- the step of a run in a steady state

module _ (s : ExtremePointSet) (walls : List Walls) (hints : List ℕ) (mass : Float) (kind : Kind) (h : Steady s walls mass) (room : s.held < most_boxes)
    (hinted : s.live ≤ length hints) where
  abbrev pub stores_at : Stores
  stores_at = stores s.points s.boxes walls hints

  abbrev turns : ℕ
  turns = length (share_of kind.rule)

  abbrev heavy : Bool
  heavy = too_heavy s.container.limit mass kind

  -- the pick that the step makes
  abbrev pub pick_at : Option Pick
  pick_at = pick_for s.container s.live s.held mass kind stores_at

  fair : over_counts s.live s.held ≡ false
  fair = not_over s.live s.held (record { room = h.room; few = h.few })

  -- there is room for one box more
  spared : Spare (length s.points) (length s.boxes) (length walls) s.live s.held
  spared =
      let p = h.points_long in
      let b = h.boxes_long in
      let w = h.walled.long in
      let f = h.few in
      record {
        counts = record { room = h.room; few = h.few };
        held_in = room;
        points_in = omega (arith, p, f, room);
        boxes_in = omega (arith, b, room);
        walls_in_lem = omega (arith, w, room);
      }

  within : InStores (length s.points) (length walls) (length hints) s.live s.held
  within =
      let p = spared.points_in in
      let w = spared.walls_in_lem in
      record { counts = spared.counts; points_in = omega (arith, p); walls_in_lem = omega (arith, w); hints_in_lem = hinted }

  pick_is : (b : Bool) → heavy ≡ b → pick_at ≡ cond b None (pick_of (room_of s.container) walls s.held s.points s.live kind (length hints) turns)
  unfolding pick_for
  pick_is b e = rw (spare_in_lem _ _ _ s.live s.held spared, e)

  -- a scan for one orientation makes the choice of the definition
  choice_best : (o : ℕ) → choice_in (room_of s.container) walls s.held s.points s.live kind (length hints) o ≡ best_of s (lengths_in kind o)
  choice_best o =
      scanned_in (room_of s.container) walls s.held (lengths_in kind o) s.points s.live (length hints) within
      ∙ walled_best s walls (lengths_in kind o) h.walled

  best_index : (o k : ℕ) → best_of s (lengths_in kind o) ≡ Some k → k < s.live
  unfolding best_of
  best_index o k = scan_found _ s.points s.live k

  pick_best : pick_of (room_of s.container) walls s.held s.points s.live kind (length hints) turns ≡ pick_by (λ o. best_of s (lengths_in kind o)) turns
  unfolding pick_of
  pick_best = pick_same _ _ turns choice_best

  -- its point is one of the stored ones
  pub picked_index : (p : Pick) → pick_at ≡ Some p → p.index < s.live
  picked_index p = go heavy refl
    where
      go : (b : Bool) → heavy ≡ b → pick_at ≡ Some p → p.index < s.live
      go true e f = let q = sym (pick_is true e) ∙ f in absurd cc
      go false e f =
          let q = pick_is false e ∙ pick_best in
          pick_index _ s.live turns best_index p (rw q at f)

  -- the turn of a run is what the pick says
  module _ (instance : ℕ) (orientations : List ℕ) (right : kind_fault kind false ≡ 0) where
    abbrev so_far : Stowed
    so_far = record { next = s; orientations = orientations }

    accepted : refusal_of s.live s.held kind ≡ 0
    unfolding refusal_of or_else
    accepted = rw (fair, right, ne_eqb s.held most_boxes (λ e. omega arith))

    turn_picked : turn_of kind instance so_far ≡ turn_by pick_at kind instance so_far
    unfolding turn_of turn_by
    turn_picked = rw (← h.mass_is) (go heavy refl)
      where
        go : (b : Bool) → heavy ≡ b
            → cond heavy so_far (after_attempt (attempt_of s kind instance turns) so_far) ≡ turn_by pick_at kind instance so_far
        go true e = rw (pick_is true e, e)
        go false e =
            rw (pick_is false e ∙ pick_best, e) (after_agrees kind instance so_far (attempt_of s kind instance turns)
            (pick_by (λ o. best_of s (lengths_in kind o)) turns) (attempt_agrees s kind instance accepted turns))

    pub turn_none : pick_at ≡ None → turn_of kind instance so_far ≡ so_far
    unfolding turn_by
    turn_none e = turn_picked ∙ rw e

    pub turn_some : (p : Pick) → pick_at ≡ Some p
        → turn_of kind instance so_far ≡ record { next = picked_of s kind instance p; orientations = set orientations s.held p.orientation }
    unfolding turn_by
    turn_some p e = turn_picked ∙ rw e

  -- ---- the stores after the step

  -- the box does not stand: all stays
  module _ (t : Stores) (i : StepIs s.container s.live s.held mass kind stores_at None t) where
    pub record Stays : Type 0 where
      pub points_stay : t.points ≡ s.points
      pub boxes_stay : t.boxes ≡ s.boxes
      pub walls_stay : t.walls ≡ walls

    pub none_picked : pick_at ≡ None
    unfolding taken_of
    none_picked = go pick_at i.taken_is
      where
        go : (q : Option Pick) → None ≡ taken_of s.container s.live s.held kind stores_at q → q ≡ None
        go (Some p) e = absurd cc
        go None e = refl

    pub step_stays : Stays
    unfolding stock_after boxes_after walls_after
    step_stays =
        let f = none_picked in
        record { points_stay = i.points_are ∙ rw f; boxes_stay = i.boxes_are ∙ rw f; walls_stay = i.walls_are ∙ rw f }

    -- so the state does too
    abbrev pub state_still : ExtremePointSet
    state_still =
        record { container = s.container; live = s.live; held = s.held; points = t.points; boxes = t.boxes; labels = s.labels }

    pub still_same : state_still ≡ s
    still_same = let y = step_stays in rw (y.points_stay, y.boxes_stay)

    pub still_steady : Steady state_still t.walls mass
    still_steady = rw (still_same, step_stays.walls_stay) h

  -- it stands
  module _ (r : Taken) (t : Stores) (i : StepIs s.container s.live s.held mass kind stores_at (Some r) t) where
    -- at the point picked, in its orientation
    pub record TakenBy (p : Pick) : Type 0 where
      pub picked : pick_at ≡ Some p
      pub orientation_is : r.orientation ≡ p.orientation
      pub live_is : r.live ≡ (stock_after s.container s.live s.held kind stores_at (Some p)).live

    pub taken_by : (p : Pick) × TakenBy p
    unfolding taken_of
    taken_by = go pick_at refl i.taken_is
      where
        go : (q : Option Pick) → pick_at ≡ q → Some r ≡ taken_of s.container s.live s.held kind stores_at q → (p : Pick) × TakenBy p
        go (Some p) f e =
            let k : r ≡ record { orientation = p.orientation; live = (stock_after s.container s.live s.held kind stores_at (Some p)).live } = cc in
            (p, record { picked = f; orientation_is = rw k; live_is = rw k })
        go None f e = absurd cc

    -- the pick
    abbrev pub pick : Pick
    pick = taken_by.0

    -- the state with the box, and with its label stored
    abbrev pub state_after : Label → ExtremePointSet
    state_after label =
        record {
          container = s.container;
          live = r.live;
          held = s.held + 1;
          points = t.points;
          boxes = t.boxes;
          labels = set s.labels s.held label;
        }

    module _ (p : Pick) (k : TakenBy p) where
      in_points : p.index < s.live
      in_points = picked_index p k.picked

      state_by : (label : Label) → state_after label ≡ after_box s p.index label (lengths_in kind p.orientation)
      unfolding stock_after boxes_after after_box
      state_by label =
          let l = in_points in
          let m = spared.points_in in
          let size = lengths_in kind p.orientation in
          let a = restock_in s.container s.boxes s.held s.live s.points p.index size l m spared.boxes_in in
          rw (k.live_is, i.points_are, i.boxes_are, k.picked, a)

      boxes_by : length t.boxes ≡ most_boxes
      unfolding after_box
      boxes_by =
          ap (λ (v : ExtremePointSet). length v.boxes) (state_by (label_of kind 0)) ∙ (length-set s.boxes s.held _ ∙ h.boxes_long)

      walls_by : t.walls ≡ put_walls walls t.boxes s.held (asked_of s.container)
      unfolding walls_after
      walls_by =
          let b = boxes_by in
          let e = rw k.picked at i.boxes_are in
          i.walls_are
          ∙ rw (k.picked, ← e) (walls_in_lem walls t.boxes s.held (asked_of s.container) (omega (arith, b, room)))

      steady_by : (label : Label) → Steady (state_after label) t.walls (mass_with mass label.mass)
      steady_by label =
          let q = state_by label in
          let n = steady_next s walls mass p.index label (lengths_in kind p.orientation) h in_points room in
          rw (walls_by, q) (boxes_same t.boxes (ap (λ (v : ExtremePointSet). v.boxes) q) n)
        where
          boxes_same : (b : List Spot) → b ≡ (after_box s p.index label (lengths_in kind p.orientation)).boxes
              → Steady (after_box s p.index label (lengths_in kind p.orientation))
              (put_walls walls (after_box s p.index label (lengths_in kind p.orientation)).boxes s.held (asked_of s.container))
              (mass_with mass label.mass)
              → Steady (after_box s p.index label (lengths_in kind p.orientation)) (put_walls walls b s.held (asked_of s.container))
              (mass_with mass label.mass)
          boxes_same b e n = rw e n

    pub step_state : (label : Label) → state_after label ≡ after_box s pick.index label (lengths_in kind pick.orientation)
    step_state = state_by pick taken_by.1

    pub step_walls : t.walls ≡ put_walls walls t.boxes s.held (asked_of s.container)
    step_walls = walls_by pick taken_by.1

    pub step_steady : (label : Label) → Steady (state_after label) t.walls (mass_with mass label.mass)
    step_steady = steady_by pick taken_by.1
