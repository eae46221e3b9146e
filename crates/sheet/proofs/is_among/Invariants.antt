-- `sheet::is_among` meets its contract: it knows of each id passed whether it is the one.
use Rattle.std.proofs.Common.{◌≡◌}
use Rattle.lists.specs.Below.{any_below, is_at}
use Rattle.sheet.proofs.is_among.Given as goal

abbrev pub invariant-loop-other : goal.invariant-loop-other
invariant-loop-other l = l.found ≡ any_below (is_at l.ids l.id) l.other-index
