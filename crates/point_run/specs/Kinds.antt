-- The kinds of an accepted order's plan_boxes: there are no more boxes than the store has places for, and each is of one of the order's kinds.
use Rattle.std.specs.Prelude.{ℕ, ◌<◌, ◌≤◌}
use Rattle.std.proofs.Common.{arith}
use Rattle.domain.specs.Bounds.{most_boxes}
use Rattle.sheet.specs.declared.Sheet.{Sheet}
use Rattle.sheet.specs.Sheets.{boxes_in}
use Rattle.sheet.specs.Accepted.{Accepted}
use Rattle.plan_boxes.specs.Turns.{turn_of, turn_right}
use Rattle.plan_boxes.specs.Orders.{some_boxes, boxes_are}

pub boxes_few : (order : Sheet) → Accepted order → boxes_in order.kinds order.many.kinds ≤ most_boxes
boxes_few order a = let e = boxes_are order a in let f = a.boxes_few in omega arith

pub turn_kind : (order : Sheet) → Accepted order → (t : ℕ) → t < boxes_in order.kinds order.many.kinds
    → (turn_of order.kinds t).kind < order.many.kinds
turn_kind order a t l =
    let e = boxes_are order a in
    (turn_right order.kinds order.many.kinds (some_boxes order a) t (omega arith)).kind_is
