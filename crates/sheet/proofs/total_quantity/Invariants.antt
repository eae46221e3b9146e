-- `sheet::total_quantity` meets its contract: the sum is over the kinds passed, and each adds a number of 32 bits.
use Rattle.std.proofs.Common.{◌≡◌, ◌≤◌, ◌*◌}
use Rattle.lists.specs.Below.{sum_below}
use Rattle.sheet.specs.Sheets.{quantity_of}
use Rattle.sheet.proofs.total_quantity.Given as goal

abbrev pub invariant-loop-kind : goal.invariant-loop-kind
invariant-loop-kind l =
    record {
      small : l.total ≤ l.kind-index * 4294967295;
      sum_is : l.total ≡ sum_below (quantity_of l.kinds) l.kind-index;
    }
