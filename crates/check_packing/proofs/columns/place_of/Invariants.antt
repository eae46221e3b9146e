-- `columns::place_of` meets its contract: what was passed is not the id.
use mathlib.Core.Path.{◌≡◌}
use Rattle.check_packing.specs.Columns.{place_below}
use Rattle.check_packing.proofs.columns.place_of.Given as goal

abbrev pub invariant-loop-k : goal.invariant-loop-k
invariant-loop-k l = place_below l.ids l.id l.k ≡ l.k
