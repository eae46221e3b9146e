-- `order::lay_boxes` meets its contract: a turn of the loop is a turn of the definition.
use Prim.Native.Nat.{◌≤◌}
use mathlib.Core.Path.{◌≡◌}
use Rattle.file_read.specs.Reading.{sheet_of}
use Rattle.plan_boxes.specs.Turns.{turn_of}
use Rattle.layer_fill.specs.Fill.{empty}
use Rattle.layer_plan.specs.Run.{run_from}
use Rattle.layer_plan.specs.Offers.{best_offer}
use Rattle.layer_plan.specs.Shown.{Holds}
use Rattle.layer_plan.proofs.order.lay_boxes.Given as goal

abbrev pub invariant-loop-t : goal.invariant-loop-t
invariant-loop-t l =
    (l.held ≤ l.t)
    × (l.u ≡ turn_of (sheet_of l.f).kinds l.t)
    × Holds (run_from (empty l.initial.stand.container) (sheet_of l.f).kinds (best_offer (sheet_of l.f).kinds) l.t) l.stand l.held l.initial.lines l.lines
