-- `boxes_of` meets its contract: after k turns it has the boxes of the first k kinds.
use mathlib.Core.Path.{◌≡◌}
use Prim.Native.Nat.{◌≤◌, ◌*◌}
use Rattle.lists.specs.Below.{sum_below}
use Rattle.plan_boxes.specs.Files.{quantity_from}
use Rattle.plan_boxes.proofs.boxes_of.Given as goal

abbrev pub invariant-loop-k : goal.invariant-loop-k
invariant-loop-k l = (l.t ≤ l.k * 4294967295) × (l.t ≡ sum_below (quantity_from l.f) l.k)
