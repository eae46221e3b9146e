-- `point_scan::around::walls_of` meets its contract: after i turns the walls of the first i boxes are stored.
use mathlib.Core.Path.{◌≡◌}
use Rattle.point_scan.specs.Walls.{walls_of}
use Rattle.point_scan.proofs.around.walls_of.Given as goal

abbrev pub invariant-loop-i : goal.invariant-loop-i
invariant-loop-i l = l.walls ≡ walls_of l.boxes l.asked l.i
