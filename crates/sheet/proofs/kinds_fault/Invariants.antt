-- `sheet::kinds_fault` meets its contract: no kind passed is refused, and their ids stand.
use Rattle.std.proofs.Common.{◌≡◌}
use Rattle.domain.specs.Refusals.{first_below}
use Rattle.sheet.specs.Sheets.{ids_below, kind_fault_in}
use Rattle.sheet.proofs.kinds_fault.Given as goal

abbrev pub invariant-loop-k : goal.invariant-loop-k
invariant-loop-k l = record { none : first_below (kind_fault_in l.kinds) l.k ≡ 0; ids_are : l.ids ≡ ids_below l.kinds l.k }
