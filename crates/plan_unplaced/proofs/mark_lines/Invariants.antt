-- `plan_unplaced::mark_lines` meets its contract: each line adds what its mark says.
use Prim.Native.Nat.{◌≤◌, ◌+◌}
use Rattle.plan_unplaced.specs.Marks.{Adds}
use Rattle.plan_unplaced.proofs.mark_lines.Given as goal

abbrev pub invariant-loop-j : goal.invariant-loop-j
invariant-loop-j l = (l.count + l.from ≤ l.j) × Adds l.lines l.from l.j l.id l.quantity l.count l.seen
