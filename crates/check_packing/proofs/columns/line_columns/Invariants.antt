-- `columns::line_columns` meets its contract: after i turns the first i cells of each column are filled, and their mass is summed.
use mathlib.Core.Path.{◌≡◌}
use Rattle.lists.specs.Table.{filled}
use Rattle.file_read.specs.Reading.{sheet_of}
use Rattle.check_packing.specs.Lines.{mass_below}
use Rattle.check_packing.specs.Columns.{kind_named, box_read}
use Rattle.check_packing.proofs.columns.line_columns.Given as goal

abbrev pub invariant-loop-i : goal.invariant-loop-i
invariant-loop-i l =
    record {
      mass_is : l.mass ≡ mass_below (sheet_of l.f) l.i;
      which_are : l.which ≡ filled l.initial.which (kind_named (sheet_of l.f)) l.i;
      boxes_are : l.boxes ≡ filled l.initial.boxes (box_read l.f) l.i;
    }
