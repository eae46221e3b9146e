-- `plan_unplaced::some_named` meets its contract: while no line has the id, each that was passed is of another kind.
use mathlib.Core.Path.{◌≡◌}
use mathlib.Core.Bool.{false}
use Rattle.plan_unplaced.specs.Marks.{Others}
use Rattle.plan_unplaced.proofs.some_named.Given as goal

abbrev pub invariant-loop-j : goal.invariant-loop-j
invariant-loop-j l = l.named ≡ false → Others l.ids l.id l.from l.j
