-- `items::lay_each` meets its contract: a turn of the loop is a turn of the definition.
use Prim.Native.Nat.{◌≤◌}
use Rattle.file_read.specs.Reading.{sheet_of}
use Rattle.layer_fill.specs.Fill.{empty}
use Rattle.layer_plan.specs.Run.{run_from}
use Rattle.layer_plan.specs.Offers.{item_offer}
use Rattle.layer_plan.specs.Shown.{Holds}
use Rattle.layer_plan.proofs.items.lay_each.Given as goal

abbrev pub invariant-loop-j : goal.invariant-loop-j
invariant-loop-j l =
    (l.held ≤ l.j)
    × Holds (run_from (empty l.initial.stand.container) (sheet_of l.f).kinds (item_offer l.records l.items) l.j) l.stand l.held l.initial.lines l.lines
