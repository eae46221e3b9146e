-- `point_totals::volume_below` meets its contract: after i turns the sum is that over the first i boxes.
use mathlib.Core.Path.{◌≡◌}
use Rattle.point_state.specs.Boxes.{volume_below}
use Rattle.point_totals.proofs.volume_below.Given as goal

abbrev pub invariant-loop-spot : goal.invariant-loop-spot
invariant-loop-spot l = l.sum ≡ volume_below l.boxes l.spot-index
