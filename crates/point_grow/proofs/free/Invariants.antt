-- `point_grow::free` meets its contract: no box passed has the point in it, and the one that ends the loop has.
use mathlib.Core.Path.{◌≡◌}
use mathlib.Core.Bool.{true}
use Rattle.point_grow.specs.Grow.{free}
use Rattle.point_grow.proofs.free.Given as goal

abbrev pub invariant-loop-spot : goal.invariant-loop-spot
invariant-loop-spot l = free l.boxes l.spot-index l.at ≡ true
