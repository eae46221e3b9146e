-- `point_step::turns::pick` meets its contract: no orientation passed finds a point, and the one that ends the loop does.
use Rattle.std.specs.Prelude.{None}
use mathlib.Core.Path.{◌≡◌}
use lib.ListN.{length}
use Rattle.point_step.specs.Pick.{pick_of, pick_hints}
use Rattle.point_step.proofs.turns.pick.Given as goal

abbrev pub invariant-loop-o : goal.invariant-loop-o
invariant-loop-o l =
    (length l.hints ≡ length l.initial.hints)
    × (pick_of l.room l.walls l.held l.points l.live l.kind (length l.initial.hints) l.o ≡ None)
    × (l.hints ≡ pick_hints l.room l.walls l.held l.points l.live l.kind (length l.initial.hints) l.initial.hints l.o)
