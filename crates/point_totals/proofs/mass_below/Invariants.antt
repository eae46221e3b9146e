-- `point_totals::mass_below` meets its contract: after i turns the sum is that over the first i boxes.
use mathlib.Core.Path.{◌≡◌}
use Rattle.point_state.specs.Boxes.{mass_below}
use Rattle.point_totals.proofs.mass_below.Given as goal

abbrev pub invariant-loop-label : goal.invariant-loop-label
invariant-loop-label l = l.sum ≡ mass_below l.labels l.label-index
