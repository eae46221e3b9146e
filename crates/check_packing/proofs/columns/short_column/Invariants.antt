-- `columns::short_column` meets its contract: after k turns the first k cells are filled.
use mathlib.Core.Path.{◌≡◌}
use Rattle.lists.specs.Table.{filled}
use Rattle.check_packing.specs.Columns.{short_in}
use Rattle.check_packing.proofs.columns.short_column.Given as goal

abbrev pub invariant-loop-k : goal.invariant-loop-k
invariant-loop-k l = l.short ≡ filled l.initial.short (short_in l.packed l.many) l.k
