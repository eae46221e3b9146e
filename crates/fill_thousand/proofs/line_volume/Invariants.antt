-- `line_volume` meets its contract: after k turns the sum is over the first k kinds.
use Rattle.std.proofs.Common.{◌≡◌, ◌*◌, ◌≤◌}
use Rattle.lists.specs.Below.{sum_below}
use Rattle.fill_thousand.specs.Tabled.{volume_if}
use Rattle.fill_thousand.specs.Fill.{most_solid}
use Rattle.fill_thousand.proofs.line_volume.Given as goal

abbrev pub invariant-loop-k : goal.invariant-loop-k
invariant-loop-k l = record { most : l.t ≤ l.k * most_solid; sum_is : l.t ≡ sum_below (volume_if l.table.ids l.table.solids l.id) l.k }
