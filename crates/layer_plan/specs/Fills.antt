-- The plans of the two runs, refusals included (packing_utils.rs, `layer_fill_in_order` and `layer_place_items`).
use Rattle.std.specs.Prelude.{◌≡◌, cond, ◌||◌, List, ℕ, ◌≤◌, eqb, ltb, min}
use Rattle.std.proofs.Common.{arith, ltb-false}
use Rattle.std.proofs.Math.Nat.{min-le_right}
use Rattle.domain.specs.Bounds.{most_boxes, most_items, most_instances}
use Rattle.lists.specs.Below.{any_below}
use Rattle.domain.specs.Refusals.{when, or_else}
use Rattle.lists.specs.Bools.{or_left}
use Rattle.domain.specs.Laws.{or_else_first, or_else_second, when_none}
use Rattle.measures.specs.declared.Container.{Container}
use Rattle.measures.specs.declared.Kind.{Kind}
use Rattle.sheet.specs.declared.Sheet.{Sheet}
use Rattle.sheet.specs.Sheets.{boxes_in, sheet_refusal}
use Rattle.sheet.specs.Accepted.{Accepted}
use Rattle.layer_fill.specs.declared.LayerFill.{LayerFill}
use Rattle.layer_state.specs.Stand.{fill_of}
use Rattle.plan_sheet.specs.Plans.{Plan, refused_plan, planned_of}
use Rattle.layer_instances.specs.Records.{records_in, is_stranger}
use Rattle.plan_boxes.specs.Orders.{boxes_are}
use Rattle.layer_plan.specs.Run.{run_by}
use Rattle.layer_plan.specs.Offers.{Offer, best_offer, item_offer, item_count}

-- the plan of a fill that n boxes were considered for
unfoldable pub plan_from : List Kind → ℕ → LayerFill → ℕ → Plan
plan_from kinds m f n = planned_of kinds m f.lines f.count n (fill_of f.stand)

-- the plan of n offers
abbrev pub plan_by : Container → List Kind → ℕ → (ℕ → Offer) → ℕ → Plan
plan_by b kinds m offer n = plan_from kinds m (run_by b kinds offer n) n

-- The fill by layers of an order: its boxes in turn, as many as are to be considered or as there are, each in its best orientation. RULES: Plans.
unfoldable pub layer_fill_of : Sheet → ℕ → Plan
layer_fill_of order consider =
    cond (eqb (sheet_refusal order) 0)
    (plan_by order.container order.kinds order.many.kinds (best_offer order.kinds) (min consider (boxes_in order.kinds order.many.kinds)))
    (refused_plan (sheet_refusal order))

-- in this order: 2 for too many items or records, what the order gets, 9 for a record of no kind of it. RULES: Refusals.
unfoldable pub items_refusal : Sheet → List ℕ → List ℕ → ℕ
items_refusal order records items =
    or_else (when (ltb most_items (item_count items) || ltb most_instances (records_in records)) 2)
    (or_else (sheet_refusal order) (when (any_below (is_stranger records order.many.kinds) (records_in records)) 9))

-- The plan of given items, as many as are to be considered or as there are; one that is skipped counts too. RULES: Second placer: items.
unfoldable pub place_items_of : Sheet → List ℕ → List ℕ → ℕ → Plan
place_items_of order records items consider =
    cond (eqb (items_refusal order records items) 0)
    (plan_by order.container order.kinds order.many.kinds (item_offer records items) (min consider (item_count items)))
    (refused_plan (items_refusal order records items))

-- ---- what is known of an accepted order

-- no more boxes are considered than there may be
pub turns_few : (order : Sheet) → Accepted order → (consider : ℕ) → min consider (boxes_in order.kinds order.many.kinds) ≤ most_boxes
turns_few order a consider =
    let l = min-le_right consider (boxes_in order.kinds order.many.kinds) in
    let e = boxes_are order a in
    let f = a.boxes_few in
    omega arith

-- ---- what is known of accepted items
pub record ItemsRight (order : Sheet) (items : List ℕ) : Type 0 where
  pub order_accepted : sheet_refusal order ≡ 0
  pub few : item_count items ≤ most_items

pub items_right : (order : Sheet) (records items : List ℕ) → items_refusal order records items ≡ 0 → ItemsRight order items
unfolding items_refusal
items_right order records items h =
    let over = ltb most_items (item_count items) || ltb most_instances (records_in records) in
    let r = or_else_second (when over 2) _ h in
    let o = when_none over 1 (or_else_first (when over 2) _ h) in
    record {
      order_accepted = or_else_first (sheet_refusal order) _ r;
      few = ltb-false most_items (item_count items) (or_left (ltb most_items (item_count items)) _ o);
    }
