-- `columns::kind_columns` meets its contract: after k turns the first k cells of each column are filled.
use mathlib.Core.Path.{◌≡◌}
use Rattle.lists.specs.Table.{filled}
use Rattle.file_read.specs.Reading.{sheet_of}
use Rattle.check_packing.specs.Columns.{kind_id, kind_many, kind_first}
use Rattle.check_packing.proofs.columns.kind_columns.Given as goal

abbrev pub invariant-loop-k : goal.invariant-loop-k
invariant-loop-k l =
    record {
      all_is : l.all ≡ kind_first (sheet_of l.f) l.k;
      ids_are : l.ids ≡ filled l.initial.ids (kind_id (sheet_of l.f)) l.k;
      many_are : l.many ≡ filled l.initial.many (kind_many (sheet_of l.f)) l.k;
    }
