-- `point_scan::fit::first_block` meets its contract: every box passed is apart, and the one that ends the loop is not.
use mathlib.Core.Path.{◌≡◌}
use mathlib.Core.Bool.{true}
use Rattle.point_state.specs.All.{all}
use Rattle.point_scan.specs.Passes.{apart_from}
use Rattle.point_scan.proofs.fit.first_block.Given as goal

abbrev pub invariant-loop-i : goal.invariant-loop-i
invariant-loop-i l = all (apart_from l.walls l.at l.far) l.i ≡ true
