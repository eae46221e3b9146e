-- `sheet_kinds::survey_kinds` meets its contract: ids, total and first fault are those of the kinds passed.
use Rattle.std.proofs.Common.{◌≡◌, ◌≤◌, ◌*◌}
use Rattle.lists.specs.Below.{sum_below}
use Rattle.sheet.specs.Sheets.{ids_below, kind_fault_in, quantity_of}
use Rattle.sheet_kinds.specs.Survey.{fault_below}
use Rattle.sheet_kinds.proofs.survey_kinds.Given as goal

abbrev pub invariant-loop-k : goal.invariant-loop-k
invariant-loop-k l =
    record {
      ids_are : l.ids ≡ ids_below l.ks l.k;
      small : l.total ≤ l.k * 4294967295;
      total_is : l.total ≡ sum_below (quantity_of l.ks) l.k;
      fault_is : l.fault ≡ fault_below (kind_fault_in l.ks) l.k;
    }
