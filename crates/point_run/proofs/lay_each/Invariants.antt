-- `point_run::lay_each` meets its contract: after i turns the stores are those of the first i boxes, and they have their lines.
use Prim.Native.Nat.{◌≤◌}
use mathlib.Core.Path.{◌≡◌}
use lib.ListN.{length}
use Rattle.file_read.specs.Reading.{sheet_of}
use Rattle.point_step.specs.Wide.{wide_points, wide_boxes, wide_walls}
use Rattle.point_run.specs.Boxes.{boxes_by}
use Rattle.point_run.specs.Lay.{Holds}
use Rattle.point_run.proofs.lay_each.Given as goal

abbrev pub invariant-loop-p : goal.invariant-loop-p
invariant-loop-p g l =
    (l.held ≤ l.p-index)
    × (length l.points ≡ g.row.POINTS)
    × (length l.boxes ≡ g.row.BOXES)
    × (length l.walls ≡ g.row.BOXES)
    × (length l.hints ≡ g.row.POINTS)
    × Holds l.c (sheet_of l.f).kinds (boxes_by (sheet_of l.f)) l.p-index l.live l.held l.last (wide_points l.points) (wide_boxes l.boxes)
    (wide_walls l.walls) l.mass l.volume l.initial.lines l.lines
