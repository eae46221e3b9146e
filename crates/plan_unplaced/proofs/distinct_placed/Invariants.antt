-- `plan_unplaced::distinct_placed` meets its contract: the marks are those of the instances placed, and each block of lines adds what its marks say.
use Prim.Native.Nat.{◌≤◌, ◌-◌}
use mathlib.Core.Path.{◌≡◌}
use Rattle.plan_unplaced.specs.Short.{distinct_placed}
use Rattle.plan_unplaced.specs.Marks.{Marked}
use Rattle.plan_unplaced.proofs.distinct_placed.Given as goal

abbrev pub invariant-loop-j : goal.invariant-loop-j
invariant-loop-j l =
    (l.j ≤ l.n) × Marked l.lines l.j l.id l.quantity l.seen × (l.count ≡ distinct_placed l.lines l.j l.id l.quantity)

abbrev pub decreases-loop-j : goal.decreases-loop-j
decreases-loop-j l = l.n - l.j
