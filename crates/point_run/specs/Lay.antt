-- A run into lent lines: what stands there after each box. RULES: First placer: run · Lent memory
use Rattle.std.specs.Prelude.{◌≡◌, false, List, [], ◌∷◌, length, get_or, set, replicate, Float, Option, Some, None}
use Rattle.std.proofs.Math.Path.{refl, ap}
use Rattle.std.proofs.Common.{sym, ◌∙◌, le_refl, add-one, arith, length-set}
use Prim.Native.Nat.{ℕ, zero, suc, ◌+◌, ◌*◌, ◌≤◌, ◌<◌}
use Rattle.std.proofs.lemmas.List.{length-replicate}
use Rattle.std.proofs.Math.Seq.{get_or-set_same, get_or-set_other}
use Rattle.floats.specs.Ops.{none, nowhere, ◌⊕◌}
use Rattle.lists.specs.Table.{filled, filled_same}
use Rattle.domain.specs.Bounds.{most_kinds, most_boxes}
use Rattle.measures.specs.declared.Container.{Container}
use Rattle.measures.specs.declared.Kind.{Kind}
use Rattle.measures.specs.Faults.{kind_fault}
use Rattle.measures.specs.Volume.{volume}
use Rattle.measures.specs.Orders.{lengths_in}
use Rattle.plan_boxes.specs.declared.Instance.{Instance}
use Rattle.plan_boxes.specs.Listing.{no_instance}
use Rattle.sheet.specs.declared.Line.{Line}
use Rattle.sheet.specs.Sheets.{no_kind, line_for}
use Rattle.point_state.specs.declared.ExtremePointSet.{ExtremePointSet}
use Rattle.point_state.specs.declared.Label.{Label}
use Rattle.point_state.specs.declared.Spot.{Spot}
use Rattle.point_state.specs.Stores.{most_points, point_in, no_spot, spot_in}
use Rattle.point_state.specs.Boxes.{no_label, volume_below, mass_of, mass_with}
use Rattle.point_state.specs.Fresh.{blank, blank_spot, start_of}
use Rattle.point_grow.specs.Grow.{put_box, after_box}
use Rattle.point_scan.specs.declared.Walls.{Walls}
use Rattle.point_scan.specs.Walls.{blank_walls}
use Rattle.point_place.specs.Place.{label_of}
use Rattle.point_step.specs.declared.Pick.{Pick}
use Rattle.point_step.specs.declared.Taken.{Taken}
use Rattle.point_step.specs.Step.{Stores, stores, StepIs, hints_for}
use Rattle.point_step.specs.Wide.{wide_points, wide_boxes, wide_walls, wide_in, wide_blank, set_wide, spot_wide, Short, step_wide}
use Rattle.point_stow.specs.Stow.{Stowed, stowed_by, turn_of}
use Rattle.point_stow.specs.Turns.{Steady, fresh_empty, stow_more, turn_none, turn_some, none_picked, step_stays, pick, taken_by, step_state, step_steady}
use Rattle.point_run.specs.declared.Stand.{Stand}
use Rattle.point_run.specs.Runs.{line_by, line_of}

-- what the loop over the boxes comes to: the lines, how many boxes stand, and their volume
abbrev pub stowed : Container → List Kind → List Instance → ℕ → Stowed
stowed c kinds items n = stowed_by (start_of c false) kinds items n

pub record EachIs (c : Container) (kinds : List Kind) (items : List Instance) (n : ℕ) (old : List Line) (r : Stand) (now : List Line) : Type 0 where
  pub held_is : r.held ≡ (stowed c kinds items n).next.held
  pub volume_is : r.volume ≡ volume_below (stowed c kinds items n).next.boxes (stowed c kinds items n).next.held
  pub filled_is : now ≡ filled old (line_of (stowed c kinds items n)) (stowed c kinds items n).next.held

-- ---- the stores of a run

-- stores of these sizes are no longer than a state's, with room for n boxes, the points that they leave, and a hint for each of these
pub record StoresFor (n boxes points : ℕ) : Type 0 where
  pub boxes_few : boxes ≤ most_boxes
  pub boxes_room : n ≤ boxes
  pub points_few : points ≤ most_points
  pub points_room : 1 + 2 * n ≤ points

-- there is room for one box more while fewer than n stand
pub stores_short : (n boxes points live held : ℕ) (t : Stores) → StoresFor n boxes points → n ≤ most_boxes → held < n → live ≤ 1 + 2 * held
    → length t.points ≡ points → length t.boxes ≡ boxes → length t.walls ≡ boxes → length t.hints ≡ points → Short live held t
stores_short n boxes points live held t f m l k p b w h =
    let few = f.boxes_few in
    let q = f.boxes_room in
    let r = f.points_room in
    let end : held < boxes = omega (arith, q, l) in
    record {
      points_few = rw p f.points_few;
      boxes_few = rw b few;
      walls_few = rw w few;
      room =
          record {
            counts = record { room = omega (arith, m, l); few = k };
            held_in = omega (arith, m, l);
            points_in = omega (arith, r, p, l, k);
            boxes_in = rw b end;
            walls_in_lem = rw w end;
          };
      hinted = omega (arith, r, h, l, k);
    }

-- ---- one box more

-- one line more
pub filled_more : {A : Type 0} (old : List A) (g h : ℕ → A) (n : ℕ) (v : A) → ((j : ℕ) → j < n → g j ≡ h j) → v ≡ h n
    → set (filled old g n) n v ≡ filled old h (n + 1)
unfolding filled
filled_more old g h n v e q = rw (add-one, filled_same old g h n e, q)

-- the lines of the boxes before stay, and the new one has its label, its orientation and its place
module _ (labels : List Label) (boxes : List Spot) (orientations : List ℕ) (held : ℕ) (label : Label) (at size : List Float) (o : ℕ) where
  abbrev spot : Spot
  spot = record { position = at; dimensions = size }

  abbrev after : ℕ → Line
  after = line_by (set labels held label) (put_box boxes held at size) (set orientations held o)

  pub line_before : (j : ℕ) → j < held → line_by labels boxes orientations j ≡ after j
  unfolding line_by
  line_before j l =
      rw (
        get_or-set_other labels held j label no_label (λ e. omega arith),
        get_or-set_other orientations held j o 0 (λ e. omega arith),
        get_or-set_other boxes held j spot no_spot (λ e. omega arith),
      )

  pub line_new : held < length labels → held < length orientations → held < length boxes
      → after held ≡ record { id = label.id; instance = label.instance; orientation = o; bin = 0; at = at }
  unfolding line_by
  line_new l m b =
      rw (get_or-set_same labels held label no_label l, get_or-set_same orientations held o 0 m, get_or-set_same boxes held spot no_spot b)

  pub volume_more : held < length boxes → (v : Float) → v ≡ volume_below boxes held → v ⊕ volume size ≡ volume_below (put_box boxes held at size) (held + 1)
  unfolding volume_below
  volume_more b v e = rw (add-one held, e, get_or-set_same boxes held spot no_spot b, volume_other held (le_refl held))
    where
      volume_other : (n : ℕ) → n ≤ held → volume_below boxes n ≡ volume_below (put_box boxes held at size) n
      volume_other zero h = refl
      volume_other (suc n) h = rw (volume_other n (omega arith), get_or-set_other boxes held n spot no_spot (λ e. omega arith))

-- ---- what the loop keeps, with the labels and the orientations that the lines stand for

abbrev pub state : Container → ℕ → ℕ → List (List Float) → List Spot → List Label → ExtremePointSet
state c live held points boxes labels = record { container = c; live = live; held = held; points = points; boxes = boxes; labels = labels }

abbrev pub so_far : ExtremePointSet → List ℕ → Stowed
so_far s orientations = record { next = s; orientations = orientations }

-- a box of kind `last` finds no place any more, whichever copy it is; with none in the store it says nothing
pub record Holds (c : Container) (kinds : List Kind) (items : List Instance) (i live held last : ℕ) (points : List (List Float)) (boxes : List Spot)
    (walls : List Walls) (mass vol : Float) (old now : List Line) : Type 0 where
  pub labels : List Label
  pub orientations : List ℕ
  pub same : so_far (state c live held points boxes labels) orientations ≡ stowed c kinds items i
  pub steady : Steady (state c live held points boxes labels) walls mass
  pub long : length orientations ≡ most_boxes
  pub volume_is : vol ≡ volume_below boxes held
  pub filled_is : now ≡ filled old (line_by labels boxes orientations) held
  pub stuck : last < most_kinds → (copy : ℕ) → turn_of (get_or kinds last no_kind) copy (stowed c kinds items i) ≡ stowed c kinds items i

past : most_kinds < most_kinds → ⊥
past l = omega arith

-- the empty container
pub holds_none : (c : Container) (kinds : List Kind) (items : List Instance) (points : List (List Float)) (old : List Line) → points ≡ (start_of c false).points
    → Holds c kinds items 0 1 0 most_kinds points (replicate most_boxes blank_spot) (replicate most_boxes blank_walls) none none old old
unfolding stowed_by start_of volume_below filled
holds_none c kinds items points old e =
    let h = fresh_empty c false in
    rw e
    (record {
      labels = replicate most_boxes blank;
      orientations = replicate most_boxes 0;
      same = refl;
      steady = h.steady;
      long = length-replicate {A = ℕ} most_boxes 0;
      volume_is = refl;
      filled_is = refl;
      stuck = λ l copy. absurd (past l);
    })

-- the first point put in blank stores
pub blank_start : (c : Container) (kinds : List Kind) (items : List Instance) (boxes points : ℕ) (old : List Line) → boxes ≤ most_boxes
    → points ≤ most_points → 1 ≤ points
    → Holds c kinds items 0 1 0 most_kinds (wide_points (set (replicate points nowhere) 0 (c.margin ∷ c.margin ∷ c.margin ∷ [])))
    (wide_boxes (replicate boxes blank_spot)) (wide_walls (replicate boxes blank_walls)) none none old old
unfolding start_of
blank_start c kinds items boxes points old few less l =
    let corner = c.margin ∷ c.margin ∷ c.margin ∷ [] in
    let put = set_wide most_points nowhere (replicate points nowhere) 0 corner (rw (length-replicate points nowhere) l) in
    rw (← put, wide_blank most_points nowhere points less, wide_blank most_boxes blank_spot boxes few, wide_blank most_boxes blank_walls boxes few)
    (holds_none c kinds items _ old refl)

module _ (c : Container) (kinds : List Kind) (items : List Instance) (i live held last : ℕ) (points : List (List Float)) (boxes : List Spot)
    (walls : List Walls) (hints : List ℕ) (mass vol : Float) (old now : List Line)
    (h : Holds c kinds items i live held last points boxes walls mass vol old now) (room : held < most_boxes) (hinted : live ≤ length hints) where
  abbrev item : Instance
  item = get_or items i no_instance

  abbrev kind : Kind
  kind = get_or kinds item.kind no_kind

  abbrev s : ExtremePointSet
  s = state c live held points boxes h.labels

  -- the box is like one that found no place since the last that did: all stays
  pub holds_skip : item.kind ≡ last → last < most_kinds → Holds c kinds items (i + 1) live held last points boxes walls mass vol old now
  holds_skip e l =
      record {
        labels = h.labels;
        orientations = h.orientations;
        same = h.same ∙ sym stays;
        steady = h.steady;
        long = h.long;
        volume_is = h.volume_is;
        filled_is = h.filled_is;
        stuck = rw stays h.stuck;
      }
    where
      stays : stowed c kinds items (i + 1) ≡ stowed c kinds items i
      stays = stow_more _ kinds items i (stowed c kinds items i) refl ∙ rw e (h.stuck l item.instance)

  -- the box does not stand, and neither does another of its kind
  pub holds_still : kind_fault kind false ≡ 0 → (t : Stores) → StepIs c live held mass kind (stores points boxes walls hints) None t
      → Holds c kinds items (i + 1) live held item.kind t.points t.boxes t.walls mass vol old now
  holds_still right t k =
      let y = step_stays s walls hints mass kind h.steady room hinted t k in
      let none = none_picked s walls hints mass kind h.steady room hinted t k in
      let none_stands : (copy : ℕ) → turn_of kind copy (so_far s h.orientations) ≡ so_far s h.orientations =
      λ copy. turn_none s walls hints mass kind h.steady room hinted copy h.orientations right none in
      let same_then : so_far s h.orientations ≡ stowed c kinds items (i + 1) =
      sym (stow_more _ kinds items i (so_far s h.orientations) h.same ∙ none_stands item.instance) in
      rw (y.points_stay, y.boxes_stay, y.walls_stay)
      (record {
        labels = h.labels;
        orientations = h.orientations;
        same = same_then;
        steady = h.steady;
        long = h.long;
        volume_is = h.volume_is;
        filled_is = h.filled_is;
        stuck = λ _ copy. rw (← same_then) (none_stands copy);
      })

  -- it stands
  module _ (right : kind_fault kind false ≡ 0) (r : Taken) (t : Stores) (k : StepIs c live held mass kind (stores points boxes walls hints) (Some r) t) where
    -- where, and in which orientation
    abbrev picked : Pick
    picked = pick s walls hints mass kind h.steady room hinted r t k

    -- one line more
    abbrev label : Label
    label = label_of kind item.instance

    abbrev place : List Float
    place = (spot_in t.boxes held).position

    abbrev pub lines_with : List Line
    lines_with = set now held (line_for kind.id item.instance r.orientation place)

    box_is : t.boxes ≡ put_box boxes held (point_in points picked.index) (lengths_in kind picked.orientation)
    unfolding after_box
    box_is = ap (λ (v : ExtremePointSet). v.boxes) (step_state s walls hints mass kind h.steady room hinted r t k label)

    room_in_boxes : held < length boxes
    room_in_boxes = rw h.steady.boxes_long room

    -- the box stands there
    spot_is : spot_in t.boxes held ≡ record { position = point_in points picked.index; dimensions = lengths_in kind picked.orientation }
    spot_is =
        ap (λ (v : List Spot). spot_in v held) box_is
        ∙ get_or-set_same boxes held (record { position = point_in points picked.index; dimensions = lengths_in kind picked.orientation }) no_spot room_in_boxes

    abbrev lines_by : List Spot → ℕ → Line
    lines_by v = line_by (set h.labels held label) v (set h.orientations held r.orientation)

    lines_with_lem : lines_with ≡ filled old (lines_by t.boxes) (held + 1)
    lines_with_lem =
        let at = point_in points picked.index in
        let size = lengths_in kind picked.orientation in
        let before = line_before h.labels boxes h.orientations held label at size r.orientation in
        let new = line_new h.labels boxes h.orientations held label at size r.orientation (rw h.steady.long room) (rw h.long room) room_in_boxes in
        let more : set now held (line_for kind.id item.instance r.orientation at) ≡ filled old (lines_by (put_box boxes held at size)) (held + 1) =
        rw h.filled_is (filled_more old _ _ held _ before (sym new)) in
        ap (λ (b : Spot). set now held (line_for kind.id item.instance r.orientation b.position)) spot_is
        ∙ (more ∙ sym (ap (λ (v : List Spot). filled old (lines_by v) (held + 1)) box_is))

    pub holds_next : (m v : Float) → m ≡ mass_with mass (mass_of kind) → v ≡ vol ⊕ volume (spot_in t.boxes held).dimensions
        → Holds c kinds items (i + 1) r.live (held + 1) most_kinds t.points t.boxes t.walls m v old lines_with
    holds_next m v g w =
        let at = point_in points picked.index in
        let size = lengths_in kind picked.orientation in
        let p = step_state s walls hints mass kind h.steady room hinted r t k label in
        let q = (taken_by s walls hints mass kind h.steady room hinted r t k).1 in
        record {
          labels = set h.labels held label;
          orientations = set h.orientations held r.orientation;
          same = stood_by _ _ h.orientations held _ _ p q.orientation_is
              ∙ sym (stow_more _ kinds items i (so_far s h.orientations) h.same
              ∙ turn_some s walls hints mass kind h.steady room hinted item.instance h.orientations right picked q.picked);
          steady = rw g (step_steady s walls hints mass kind h.steady room hinted r t k label);
          long = length-set h.orientations held r.orientation ∙ h.long;
          volume_is =
              w
              ∙ (ap (λ (b : Spot). vol ⊕ volume b.dimensions) spot_is
              ∙ (volume_more h.labels boxes h.orientations held label at size r.orientation room_in_boxes vol h.volume_is
              ∙ sym (ap (λ (v : List Spot). volume_below v (held + 1)) box_is)));
          filled_is = lines_with_lem;
          stuck = λ l copy. absurd (past l);
        }
      where
        stood_by : (q u : ExtremePointSet) (turns : List ℕ) (n o w : ℕ) → q ≡ u → o ≡ w → so_far q (set turns n o) ≡ so_far u (set turns n w)
        stood_by q u turns n o w e f = rw (e, f)

  -- the same of a kind, a copy and a place that were read where they are used
  module _ (read : Kind) (read_is : read ≡ kind) (right : kind_fault kind false ≡ 0) where
    step_of : (r : Option Taken) (t : Stores) → StepIs c live held mass read (stores points boxes walls hints) r t
        → StepIs c live held mass kind (stores points boxes walls hints) r t
    step_of r t k = rw (← read_is) k

    pub still_read : (t : Stores) → StepIs c live held mass read (stores points boxes walls hints) None t → (j : ℕ) → j ≡ item.kind
        → Holds c kinds items (i + 1) live held j t.points t.boxes t.walls mass vol old now
    still_read t k j g = rw g (holds_still right t (step_of None t k))

    pub next_read : (r : Taken) (t : Stores) → StepIs c live held mass read (stores points boxes walls hints) (Some r) t
        → (copy : ℕ) (at : List Float) (m v : Float) → copy ≡ item.instance → at ≡ (spot_in t.boxes held).position
        → m ≡ mass_with mass (mass_of read) → v ≡ vol ⊕ volume (spot_in t.boxes held).dimensions
        → Holds c kinds items (i + 1) r.live (held + 1) most_kinds t.points t.boxes t.walls m v old
        (set now held (line_for read.id copy r.orientation at))
    next_read r t k copy at m v g p q w = rw (p, g, read_is) (holds_next right r t (step_of (Some r) t k) m v (rw read_is at q) w)

-- the same over shorter stores, with any hints
module _ (c : Container) (kinds : List Kind) (items : List Instance) (i live held last : ℕ) (points : List (List Float)) (boxes : List Spot)
    (walls : List Walls) (hints : List ℕ) (mass vol : Float) (old now : List Line)
    (h : Holds c kinds items i live held last (wide_points points) (wide_boxes boxes) (wide_walls walls) mass vol old now)
    (short : Short live held (stores points boxes walls hints)) (read : Kind)
    (read_is : read ≡ get_or kinds (get_or items i no_instance).kind no_kind)
    (right : kind_fault (get_or kinds (get_or items i no_instance).kind no_kind) false ≡ 0) where
  abbrev room_in : held < most_boxes
  room_in = short.room.held_in

  wide_step : (r : Option Taken) (t : Stores) → StepIs c live held mass read (stores points boxes walls hints) r t
      → StepIs c live held mass read (wide_in (stores points boxes walls hints) hints) r
      (wide_in t (hints_for c live held mass read (wide_in (stores points boxes walls hints) hints)))
  wide_step r t k = step_wide c live held mass read (stores points boxes walls hints) short hints short.hinted r t k

  pub still_short : (t : Stores) → StepIs c live held mass read (stores points boxes walls hints) None t
      → (j : ℕ) → j ≡ (get_or items i no_instance).kind
      → Holds c kinds items (i + 1) live held j (wide_points t.points) (wide_boxes t.boxes) (wide_walls t.walls) mass vol old now
  still_short t k j g =
      still_read c kinds items i live held last _ _ _ hints mass vol old now h room_in short.hinted read read_is right _ (wide_step None t k) j g

  pub next_short : (r : Taken) (t : Stores) → StepIs c live held mass read (stores points boxes walls hints) (Some r) t
      → length t.boxes ≡ length boxes → (copy : ℕ) (at : List Float) (m v : Float) → copy ≡ (get_or items i no_instance).instance
      → at ≡ (spot_in t.boxes held).position → m ≡ mass_with mass (mass_of read) → v ≡ vol ⊕ volume (spot_in t.boxes held).dimensions
      → Holds c kinds items (i + 1) r.live (held + 1) most_kinds (wide_points t.points) (wide_boxes t.boxes) (wide_walls t.walls) m v old
      (set now held (line_for read.id copy r.orientation at))
  next_short r t k kept copy at m v g p q u =
      let there = spot_wide t.boxes held (rw kept short.room.boxes_in) in
      next_read c kinds items i live held last _ _ _ hints mass vol old now h room_in short.hinted read read_is right r _ (wide_step (Some r) t k) copy at m v g
      (rw there p) q (rw there u)

-- after the last box
pub holds_all : (c : Container) (kinds : List Kind) (items : List Instance) (n live held last : ℕ) (points : List (List Float)) (boxes : List Spot)
    (walls : List Walls) (mass vol : Float) (old now : List Line)
    → Holds c kinds items n live held last points boxes walls mass vol old now → EachIs c kinds items n old (record { held = held; volume = vol }) now
holds_all c kinds items n live held last points boxes walls mass vol old now h =
    let e = h.same in
    record { held_is = rw (← e); volume_is = rw (← e) h.volume_is; filled_is = rw (← e) h.filled_is }
