-- The planned sheet of an accepted order is accepted, by either placer and for every number of boxes to consider.
use Rattle.std.specs.Prelude.{◌≡◌, refl, ℕ, ◌≤◌, get_or}
use Rattle.std.proofs.Common.{arith}
use Rattle.std.proofs.Math.Nat.{min-le_right}
use Rattle.domain.specs.Bounds.{most_lines}
use Rattle.sheet.specs.declared.Sheet.{Sheet}
use Rattle.sheet.specs.Sheets.{no_line, boxes_in, sheet_refusal}
use Rattle.sheet.specs.Accepted.{accepted}
use Rattle.plan_sheet.specs.Plans.{blank_line}
use Rattle.point_state.specs.Fresh.{fresh_state, fair_fresh}
use Rattle.point_laws.specs.Reach.{start}
use Rattle.lists.specs.Table.{table}
use Rattle.point_run.specs.Order.{falling_boxes}
use Rattle.point_run.specs.Runs.{line_of, plan_from, run_of, ep_packing_of}
use Rattle.point_laws.specs.Reached.{stow_reached}
use Rattle.point_laws.specs.Told.{considers, run_by}
use Rattle.layer_fill.specs.declared.LayerFill.{LayerFill}
use Rattle.layer_plan.specs.Fills as Fills
use Rattle.layer_plan.specs.Fills.{layer_fill_of, turns_few}
use Rattle.plan_laws.specs.Spots.{sized, no_fault}
use Rattle.plan_laws.specs.Points.{Housed}
use Rattle.plan_laws.specs.Layers.{InOrder}
use Rattle.plan_laws.specs.Accepted.{planned_holds, Taken, sheet_right, line_right, held_few, turn_measures, number, fill_to, count_few}
use Rattle.plan_laws.proofs.Points.{reached_housed}
use Rattle.plan_laws.proofs.Layers.{fill_right}

-- a run from a fresh state of an accepted order's container
run_housed : (order : Sheet) (consider : ℕ) → sheet_refusal order ≡ 0 → Housed (run_by order consider).next
unfolding run_of
run_housed order consider z =
    let fair = fair_fresh order.container (accepted order z).container_right in
    reached_housed
    (stow_reached (fresh_state order.container) order.kinds (falling_boxes order.kinds (boxes_in order.kinds order.many.kinds))
    (considers order consider)
    (start order.container fair))

pub points_accepted : (order : Sheet) (consider : ℕ) → sheet_refusal order ≡ 0 → Taken order (ep_packing_of order consider)
unfolding ep_packing_of plan_from
points_accepted order consider z =
    let f = run_by order consider in
    let n = f.next.held in
    let few = held_few order consider z in
    rw z
    (sheet_right order _ (table blank_line most_lines (line_of f) n) n z few
    (planned_holds order.kinds order.many.kinds (table blank_line most_lines (line_of f) n) n (considers order consider) _
    (accepted order z).few_of.kinds few)
    (λ i l. line_right f n i few l (run_housed order consider z) refl))

stow_accepted : (order : Sheet) (f : LayerFill) (n : ℕ) → sheet_refusal order ≡ 0 → InOrder order.container f → f.count ≤ most_lines
    → Taken order (Fills.plan_from order.kinds order.many.kinds f n)
unfolding Fills.plan_from
stow_accepted order f n z o few =
    sheet_right order _ f.lines f.count z few
    (planned_holds order.kinds order.many.kinds f.lines f.count n _ (accepted order z).few_of.kinds few)
    (λ i l. no_fault (get_or f.lines i no_line) (o.range i l))

pub layers_accepted : (order : Sheet) (consider : ℕ) → sheet_refusal order ≡ 0 → Taken order (layer_fill_of order consider)
unfolding layer_fill_of
layers_accepted order consider z =
    let a = accepted order z in
    let l = min-le_right consider (boxes_in order.kinds order.many.kinds) in
    rw z
    (stow_accepted order (fill_to order consider) (number order consider) z
    (fill_right order.container order.kinds (number order consider) (sized order.container a.container_right) (turns_few order a consider)
    (λ t k. turn_measures order a t (omega arith)))
    (count_few order consider z))
