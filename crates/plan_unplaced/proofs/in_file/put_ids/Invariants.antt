-- `plan_unplaced::in_file::put_ids` meets its contract: each turn stores one id more.
use mathlib.Core.Path.{◌≡◌}
use Rattle.lists.specs.Table.{filled}
use Rattle.plan_unplaced.specs.Short.{id_at}
use Rattle.plan_unplaced.proofs.in_file.put_ids.Given as goal

abbrev pub invariant-loop-j : goal.invariant-loop-j
invariant-loop-j l = l.ids ≡ filled l.initial.ids (id_at l.lines) l.j
