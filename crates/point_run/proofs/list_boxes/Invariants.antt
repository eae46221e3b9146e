-- `point_run::list_boxes` meets its contract: each turn stores one box more, and goes on to the next.
use mathlib.Core.Path.{◌≡◌}
use Rattle.file_read.specs.Reading.{sheet_of}
use Rattle.plan_boxes.specs.Turns.{turn_of}
use Rattle.point_run.specs.Boxes.{Lists}
use Rattle.point_run.proofs.list_boxes.Given as goal

abbrev pub invariant-loop-t : goal.invariant-loop-t
invariant-loop-t l =
    (l.u ≡ turn_of (sheet_of l.f).kinds l.t) × Lists (sheet_of l.f).kinds l.t l.initial.items l.initial.volumes l.items l.volumes
