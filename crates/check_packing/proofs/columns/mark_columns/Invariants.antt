-- `columns::mark_columns` meets its contract: before line i the marks are those of the lines before it.
use mathlib.Core.Path.{◌≡◌}
use lib.ListN.{length}
use Rattle.lists.specs.Table.{filled}
use Rattle.file_read.specs.Reading.{sheet_of}
use Rattle.check_packing.specs.Lines.{repeats}
use Rattle.check_packing.proofs.Marks.{Marked}
use Rattle.check_packing.proofs.columns.mark_columns.Given as goal

abbrev pub invariant-loop-i : goal.invariant-loop-i
invariant-loop-i l =
    record {
      again_are : l.again ≡ filled l.initial.again (repeats (sheet_of l.f)) l.i;
      marked : Marked (sheet_of l.f) l.i l.seen l.packed;
      as_long : length l.seen ≡ length l.initial.seen;
    }
