-- `columns::first_column` meets its contract: before kind k the quantities of those before it are summed.
use mathlib.Core.Path.{◌≡◌}
use Rattle.lists.specs.Table.{filled}
use Rattle.file_read.specs.Reading.{sheet_of}
use Rattle.check_packing.specs.Columns.{kind_first}
use Rattle.check_packing.proofs.columns.first_column.Given as goal

abbrev pub invariant-loop-k : goal.invariant-loop-k
invariant-loop-k l =
    record { sum_is : l.sum ≡ kind_first (sheet_of l.f) l.k; firsts_are : l.firsts ≡ filled l.initial.firsts (kind_first (sheet_of l.f)) l.k }
