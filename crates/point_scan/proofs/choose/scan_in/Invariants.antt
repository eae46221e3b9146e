-- `point_scan::choose::scan_in` meets its contract: after i turns the choice is that among the first i points.
use mathlib.Core.Path.{◌≡◌}
use lib.ListN.{length}
use Rattle.point_scan.specs.Walls.{scan_of, hints_of}
use Rattle.point_scan.proofs.choose.scan_in.Given as goal

abbrev pub invariant-loop-i : goal.invariant-loop-i
invariant-loop-i l =
    (length l.hints ≡ length l.initial.hints)
    × (l.chosen ≡ scan_of l.room l.walls l.held l.size l.points l.i)
    × (l.hints ≡ hints_of l.room l.walls l.held l.size l.points l.initial.hints l.i)
