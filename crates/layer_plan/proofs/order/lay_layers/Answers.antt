-- `order::lay_layers` meets its contract: the file's refusal, that of too few lines, or the fill of its order.
use Rattle.std.proofs.Common.{◌≡◌, ◌∙◌, arith}
use Rattle.std.proofs.lemmas.Result.{err_from_is_err_and}
use Rattle.std.specs.Prelude.{min}
use Rattle.std.proofs.Math.Nat.{min-le_right}
use Rattle.domain.specs.Refusal.{room_enough}
use Rattle.sheet.specs.Accepted.{accepted}
use Rattle.file_read.specs.Reading.{sheet_of}
use Rattle.file_read.specs.Refusal.{sheet_sound}
use Rattle.file_accept.specs.Accept.{Taken, taken}
use Rattle.plan_sheet.specs.Laid.{plan_in}
use Rattle.plan_sheet.specs.LaidLaws.{lays_unread}
use Rattle.plan_boxes.specs.Files.{boxes_from_lem, in_file}
use Rattle.layer_instances.specs.Instances.{total}
use Rattle.layer_plan.specs.Fills.{layer_fill_of}
use Rattle.layer_plan.specs.Laid.{Made, fill_by, filled_in, lays_room, lays_none}
use Rattle.layer_plan.proofs.order.lay_layers.Goals as goal
use Rattle.layer_plan.proofs.order.lay_layers.Goals.{After-min-n}

pub returns-in_err-a : goal.returns-in_err-a
returns-in_err-a c =
    let p = err_from_is_err_and c.from_residual.result c.from_residual.ensures.1 in
    rw (p.1, p.2) (lays_unread layer_fill_of _ _ _ _ _ c.in_err-a.ensures)

-- past the test the file is accepted, and as many boxes are considered as it says
known : (c : After-min-n) → Taken c.args.order.now c.in_ok-a.a
known c = taken _ _ c.in_ok-a.ensures

counted : (c : After-min-n) → let a = c.args in c.min-n.result ≡ min a.consider (total (sheet_of a.order.now))
counted c =
    let t = known c in
    let e = c.boxes_of.ensures ∙ boxes_from_lem _ _ t.can_read t.kinds_are in
    c.min-n.ensures ∙ rw e

made : (c : After-min-n) → let a = c.args in
    Made (plan_in layer_fill_of a.order.now a.consider) (fill_by (sheet_of a.order.now) c.min-n.result) c.min-n.result
made c = rw (counted c) (filled_in _ c.args.consider (known c).sound)

pub returns-in_err-refuse : goal.returns-in_err-refuse
returns-in_err-refuse c =
    let p = err_from_is_err_and c.from_residual-in_err-refuse.result c.from_residual-in_err-refuse.ensures.1 in
    rw (p.1, p.2) (lays_none _ _ _ _ (made (goal.at.returns-in_err-refuse c).After-min-n) tt _ c.in_err-refuse.ensures)

pub lay_boxes-requires : goal.lay_boxes-requires
lay_boxes-requires c =
    let g = (goal.at.lay_boxes-requires c).After-min-n in
    let t = known g in
    let e = counted g in
    let l = min-le_right c.args.consider (total (sheet_of c.args.order.now)) in
    (in_file _ _ t.can_read (accepted _ (sheet_sound _ t.sound)) (omega arith), room_enough _ _ c.in_ok-refuse.ensures)

pub returns : goal.returns
returns c = lays_room _ _ _ _ (made (goal.at.returns c).After-min-n) tt tt _ _ c.in_ok-refuse.ensures c.lay_boxes.ensures
