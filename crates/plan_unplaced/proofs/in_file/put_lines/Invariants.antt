-- `plan_unplaced::in_file::put_lines` meets its contract: each turn stores one line more.
use mathlib.Core.Path.{◌≡◌}
use Rattle.lists.specs.Table.{filled}
use Rattle.sheet.specs.Sheets.{line_at}
use Rattle.file_read.specs.Reading.{sheet_of}
use Rattle.plan_unplaced.proofs.in_file.put_lines.Given as goal

abbrev pub invariant-loop-i : goal.invariant-loop-i
invariant-loop-i l = l.lines ≡ filled l.initial.lines (line_at (sheet_of l.f)) l.i
