-- What the plan of a fill holds: the fill's own lines and their number.
use Rattle.std.specs.Prelude.{◌≡◌, ℕ, ◌≤◌, min}
use Rattle.std.proofs.Common.{arith, eq-eqb}
use Rattle.std.proofs.Math.Nat.{min-le_right}
use Rattle.domain.specs.Bounds.{most_boxes}
use Rattle.sheet.specs.declared.Sheet.{Sheet}
use Rattle.sheet.specs.Sheets.{sheet_refusal}
use Rattle.sheet.specs.Accepted.{Accepted, accepted}
use Rattle.layer_fill.specs.declared.LayerFill.{LayerFill}
use Rattle.layer_fill.specs.Fill.{empty}
use Rattle.layer_plan.specs.Run.{run_from, run_few}
use Rattle.layer_plan.specs.Offers.{best_offer}
use Rattle.layer_instances.specs.Instances.{total}
use Rattle.plan_boxes.specs.Orders.{boxes_are}
use Rattle.layer_plan.specs.Fills.{plan_from, layer_fill_of}
pub use Rattle.layer_plan.specs.Laid.{Made, plan_made}

-- the fill over n boxes of an order
abbrev pub fill_to : Sheet → ℕ → LayerFill
fill_to order n = run_from (empty order.container) order.kinds (best_offer order.kinds) n

-- how many boxes a fill considers
abbrev pub number : Sheet → ℕ → ℕ
number order consider = min consider (total order)

-- the plan of an accepted order
pub fill_plan : (order : Sheet) (consider : ℕ) → sheet_refusal order ≡ 0
    → layer_fill_of order consider ≡ plan_from order.kinds order.many.kinds (fill_to order (number order consider)) (number order consider)
unfolding layer_fill_of
fill_plan order consider h = rw (eq-eqb (sheet_refusal order) 0 h)

-- no more boxes are considered than there are
pub number_few : (order : Sheet) (consider : ℕ) → Accepted order → number order consider ≤ most_boxes
number_few order consider a =
    let l = min-le_right consider (total order) in
    let e = boxes_are order a in
    let f = a.boxes_few in
    omega arith

pub fill_made : (order : Sheet) (consider : ℕ) → sheet_refusal order ≡ 0
    → Made (layer_fill_of order consider) (fill_to order (number order consider)) (number order consider)
fill_made order consider h =
    let a = accepted order h in
    let n = number order consider in
    let f = number_few order consider a in
    let c = run_few (empty order.container) order.kinds (best_offer order.kinds) n in
    rw (fill_plan order consider h) (plan_made order.kinds order.many.kinds (fill_to order n) n a.few_of.kinds (omega arith))
