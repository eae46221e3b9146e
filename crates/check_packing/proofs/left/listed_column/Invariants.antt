-- `left::listed_column` meets its contract: before unplaced id i the kinds listed before it are marked.
use Rattle.file_read.specs.Reading.{sheet_of}
use Rattle.check_packing.specs.Columns.{Listed}
use Rattle.check_packing.proofs.left.listed_column.Given as goal

abbrev pub invariant-loop-i : goal.invariant-loop-i
invariant-loop-i l = Listed (sheet_of l.f) l.i l.listed
