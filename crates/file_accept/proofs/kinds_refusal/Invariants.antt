-- `accept::kinds_refusal` meets its contract: no kind passed is refused, and ids and total are those of the kinds passed.
use Rattle.std.proofs.Common.{◌≡◌, ◌≤◌, ◌*◌}
use Rattle.lists.specs.Below.{sum_below}
use Rattle.domain.specs.Refusals.{first_below}
use Rattle.sheet.specs.Sheets.{ids_below, kind_fault_in, quantity_of}
use Rattle.file_read.specs.Reading.{sheet_of}
use Rattle.file_accept.proofs.kinds_refusal.Given as goal

abbrev pub invariant-loop-k : goal.invariant-loop-k
invariant-loop-k l =
    record {
      small : l.total ≤ l.k * 4294967295;
      ids_are : l.ids ≡ ids_below (sheet_of l.f).kinds l.k;
      none : first_below (kind_fault_in (sheet_of l.f).kinds) l.k ≡ 0;
      total_is : l.total ≡ sum_below (quantity_of (sheet_of l.f).kinds) l.k;
    }
