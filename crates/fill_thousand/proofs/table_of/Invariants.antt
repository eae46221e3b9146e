-- `table_of` meets its contract: after k turns the first k cells of each column are filled, and no length of the first k kinds was uneven.
use Rattle.std.proofs.Common.{◌≡◌, false}
use Rattle.lists.specs.Below.{any_below}
use Rattle.file_read.specs.Reading.{sheet_of}
use Rattle.lists.specs.Table.{filled}
use Rattle.fill_thousand.specs.Fill.{uneven_kind}
use Rattle.fill_thousand.specs.Tabled.{kind_id, kind_solid}
use Rattle.fill_thousand.proofs.table_of.Given as goal

abbrev pub invariant-loop-k : goal.invariant-loop-k
invariant-loop-k l =
    record {
      none_odd : any_below (uneven_kind (sheet_of l.f).kinds) l.k ≡ false;
      ids_are : l.ids ≡ filled l.initial.ids (kind_id (sheet_of l.f)) l.k;
      solids_are : l.solids ≡ filled l.initial.solids (kind_solid (sheet_of l.f)) l.k;
    }
