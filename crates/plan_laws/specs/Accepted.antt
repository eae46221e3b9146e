-- What the plan of an accepted order holds, and when its sheet is accepted. That it is, by either placer, stands in proofs/Accepted.antt.
use Rattle.std.specs.Prelude.{◌≡◌, refl, false, List, ℕ, zero, suc, ◌<◌, ◌≤◌, get_or, Float, min}
use Rattle.std.proofs.Common.{◌∙◌, arith, le-ltb}
use Rattle.std.proofs.Math.Nat.{min-le_right}
use Rattle.domain.specs.Bounds.{most_kinds, most_boxes, most_lines, most_unplaced}
use Rattle.domain.specs.Refusals.{or_else, first_below}
use Rattle.measures.specs.declared.Kind.{Kind}
use Rattle.measures.specs.Faults.{measure_fault}
use Rattle.sheet.specs.declared.Line.{Line}
use Rattle.sheet.specs.declared.Sheet.{Sheet}
use Rattle.sheet.specs.Sheets.{no_kind, no_line, boxes_in, line_fault, line_fault_in, sheet_refusal}
use Rattle.sheet.specs.Accepted.{Accepted, accepted}
use Rattle.plan_boxes.specs.Turns.{turn_of, turn_right}
use Rattle.plan_unplaced.specs.declared.Left.{Left}
use Rattle.plan_unplaced.specs.Left.{left_after, left_by, flags_of, left_few, none_over}
use Rattle.plan_unplaced.specs.Anew.{anew_refusal}
use Rattle.plan_sheet.specs.Plans.{Plan, blank_line, planned_of, plan_refusal}
use Rattle.plan_sheet.specs.Planned.{widened, planned_sheet, sheet_from}
use Rattle.point_stow.specs.Stow.{Stowed}
use Rattle.lists.specs.Table.{table, table_at}
use Rattle.point_run.specs.Runs.{line_by, line_of, plan_from, ep_packing_of}
use Rattle.point_run.specs.Kinds.{boxes_few}
use Rattle.point_laws.specs.Told.{considers, run_by, placed_few}
use Rattle.layer_fill.specs.declared.LayerFill.{LayerFill}
use Rattle.layer_fill.specs.Fill.{empty}
use Rattle.layer_plan.specs.Run.{run_from, run_few}
use Rattle.layer_plan.specs.Offers.{best_offer, item_offer, item_count}
use Rattle.layer_plan.specs.Fills as Fills
use Rattle.layer_plan.specs.Fills.{layer_fill_of, items_refusal, place_items_of, turns_few, items_right}
use Rattle.plan_boxes.specs.Orders.{some_boxes, boxes_are}
use Rattle.plan_laws.specs.Spots.{no_fault}
use Rattle.plan_laws.specs.Points.{Housed}

-- what a plan made of lines holds: it is not refused, and has these lines and no more unplaced ids than there are kinds
pub record Holds (p : Plan) (lines : List Line) (n : ℕ) : Type 0 where
  pub not_refused : p.refused ≡ 0
  pub placed_are : p.placed ≡ n
  pub lines_are : p.lines ≡ lines
  pub ids_few : p.unplaced ≤ most_kinds

pub planned_holds : (kinds : List Kind) (m : ℕ) (lines : List Line) (n considered : ℕ) (u : Float) → m ≤ most_kinds → n ≤ most_lines
    → Holds (planned_of kinds m lines n considered u) lines n
unfolding planned_of left_by
planned_holds kinds m lines n considered u h k =
    let f = left_few kinds (flags_of kinds lines n m) m in
    rw (none_over m n h k) (record { not_refused = refl; placed_are = refl; lines_are = refl; ids_few = omega arith })

-- the unplaced list of a plan of m kinds is what its own lines leave, which are no more than there may be
abbrev pub left_in : List Kind → ℕ → List Line → ℕ → Left
left_in kinds m lines n = left_after kinds (flags_of kinds lines n m) m

pub record Lists (kinds : List Kind) (m : ℕ) (p : Plan) : Type 0 where
  pub lines_few : p.placed ≤ most_lines
  pub count_is : p.unplaced ≡ (left_in kinds m p.lines p.placed).count
  pub ids_are : p.ids ≡ (left_in kinds m p.lines p.placed).ids

planned_lists : (kinds : List Kind) (m : ℕ) (lines : List Line) (n considered : ℕ) (u : Float) → m ≤ most_kinds → n ≤ most_lines
    → Lists kinds m (planned_of kinds m lines n considered u)
unfolding planned_of left_by
planned_lists kinds m lines n considered u h k = rw (none_over m n h k) (record { lines_few = k; count_is = refl; ids_are = refl })

-- ---- the sheet of such a plan

pub record Taken (order : Sheet) (p : Plan) : Type 0 where
  pub sheet_is : sheet_from order p ≡ record { refused = 0; sheet = planned_sheet order p }
  pub sheet_accepted : sheet_refusal (planned_sheet order p) ≡ 0

all_none : (g : ℕ → ℕ) (n : ℕ) → ((i : ℕ) → i < n → g i ≡ 0) → first_below g n ≡ 0
unfolding first_below or_else
all_none g zero h = refl
all_none g (suc n) h = rw (all_none g n (λ i l. h i (omega arith)), h n (omega arith))

sheet_from_lem : (order : Sheet) (p : Plan) → p.refused ≡ 0 → p.placed ≤ most_lines → p.unplaced ≤ most_kinds
    → sheet_from order p ≡ record { refused = 0; sheet = planned_sheet order p }
unfolding sheet_from plan_refusal or_else
sheet_from_lem order p r a b = rw (r, le-ltb most_lines p.placed a, le-ltb most_kinds p.unplaced b)

sheet_taken : (order : Sheet) (p : Plan) → sheet_refusal order ≡ 0 → p.placed ≤ most_lines → p.unplaced ≤ most_unplaced
    → first_below (line_fault_in p.lines) p.placed ≡ 0
    → sheet_refusal (planned_sheet order p) ≡ 0
unfolding planned_sheet
sheet_taken order p z a b e = anew_refusal order p.lines p.placed (widened p.ids) p.unplaced z a b ∙ e

lines_right : (lines : List Line) (n : ℕ) → ((i : ℕ) → i < n → line_fault (get_or lines i no_line) ≡ 0) → first_below (line_fault_in lines) n ≡ 0
unfolding line_fault_in
lines_right lines n h = all_none (line_fault_in lines) n h

pub sheet_right : (order : Sheet) (p : Plan) (lines : List Line) (n : ℕ) → sheet_refusal order ≡ 0 → n ≤ most_lines → Holds p lines n
    → ((i : ℕ) → i < n → line_fault (get_or lines i no_line) ≡ 0) → Taken order p
sheet_right order p lines n z few h right =
    let a : p.placed ≤ most_lines = rw h.placed_are few in
    let b = h.ids_few in
    record {
      sheet_is = sheet_from_lem order p h.not_refused a b;
      sheet_accepted = sheet_taken order p z a (omega arith) (rw (h.placed_are, h.lines_are) (lines_right lines n right));
    }

-- ---- extreme points

pub line_right : (f : Stowed) (n i : ℕ) → n ≤ most_boxes → i < n → Housed f.next → f.next.held ≡ n
    → line_fault (get_or (table blank_line most_lines (line_of f) n) i no_line) ≡ 0
unfolding line_by
line_right f n i few l h e =
    rw (table_at blank_line most_lines (line_of f) n i no_line few l) (no_fault (line_of f i) (h.range i (rw e l)))

-- no more boxes than there can be
pub held_few : (order : Sheet) (consider : ℕ) → sheet_refusal order ≡ 0 → (run_by order consider).next.held ≤ most_boxes
held_few order consider z =
    let h = placed_few order consider z in
    let l = min-le_right consider (boxes_in order.kinds order.many.kinds) in
    let b = boxes_few order (accepted order z) in
    omega arith

pub points_lists : (order : Sheet) (consider : ℕ) → sheet_refusal order ≡ 0 → Lists order.kinds order.many.kinds (ep_packing_of order consider)
unfolding ep_packing_of plan_from
points_lists order consider z =
    let f = run_by order consider in
    rw z
    (planned_lists order.kinds order.many.kinds (table blank_line most_lines (line_of f) f.next.held) f.next.held (considers order consider) _
    (accepted order z).few_of.kinds (held_few order consider z))

-- ---- layers

-- the kinds of an accepted order's turns are right
pub turn_measures : (order : Sheet) → Accepted order → (t : ℕ) → t < boxes_in order.kinds order.many.kinds
    → measure_fault (get_or order.kinds (turn_of order.kinds t).kind no_kind) ≡ false
turn_measures order a t l =
    let e = boxes_are order a in
    let r = turn_right order.kinds order.many.kinds (some_boxes order a) t (omega arith) in
    (a.kind_sound (turn_of order.kinds t).kind r.kind_is).measures_right

-- the fill over as many boxes as are considered, and its lines
abbrev pub number : Sheet → ℕ → ℕ
number order consider = min consider (boxes_in order.kinds order.many.kinds)

abbrev pub fill_to : Sheet → ℕ → LayerFill
fill_to order consider = run_from (empty order.container) order.kinds (best_offer order.kinds) (number order consider)

pub count_few : (order : Sheet) (consider : ℕ) → sheet_refusal order ≡ 0 → (fill_to order consider).count ≤ most_lines
count_few order consider z =
    let m = turns_few order (accepted order z) consider in
    let c = run_few (empty order.container) order.kinds (best_offer order.kinds) (number order consider) in
    omega arith

pub layers_lists : (order : Sheet) (consider : ℕ) → sheet_refusal order ≡ 0 → Lists order.kinds order.many.kinds (layer_fill_of order consider)
unfolding layer_fill_of Fills.plan_from
layers_lists order consider z =
    let f = fill_to order consider in
    rw z
    (planned_lists order.kinds order.many.kinds f.lines f.count (number order consider) _ (accepted order z).few_of.kinds
    (count_few order consider z))

-- ---- items

pub items_lists : (order : Sheet) (records items : List ℕ) (consider : ℕ) → items_refusal order records items ≡ 0
    → Lists order.kinds order.many.kinds (place_items_of order records items consider)
unfolding place_items_of Fills.plan_from
items_lists order records items consider z =
    let r = items_right order records items z in
    let n = min consider (item_count items) in
    let l = min-le_right consider (item_count items) in
    let m = r.few in
    let c = run_few (empty order.container) order.kinds (item_offer records items) n in
    let f = run_from (empty order.container) order.kinds (item_offer records items) n in
    rw z (planned_lists order.kinds order.many.kinds f.lines f.count n _ (accepted order r.order_accepted).few_of.kinds (omega arith))

-- ---- the lines of a plan

pub points_lines : (order : Sheet) (consider : ℕ) → sheet_refusal order ≡ 0
    → let f = run_by order consider in Holds (ep_packing_of order consider) (table blank_line most_lines (line_of f) f.next.held) f.next.held
unfolding ep_packing_of plan_from
points_lines order consider z =
    let f = run_by order consider in
    let n = f.next.held in
    rw z
    (planned_holds order.kinds order.many.kinds (table blank_line most_lines (line_of f) n) n (considers order consider) _
    (accepted order z).few_of.kinds (held_few order consider z))

pub layers_lines : (order : Sheet) (consider : ℕ) → sheet_refusal order ≡ 0 → (layer_fill_of order consider).lines ≡ (fill_to order consider).lines
unfolding layer_fill_of Fills.plan_from
layers_lines order consider z =
    let f = fill_to order consider in
    rw z
    (planned_holds order.kinds order.many.kinds f.lines f.count (number order consider) _ (accepted order z).few_of.kinds
    (count_few order consider z)).lines_are
