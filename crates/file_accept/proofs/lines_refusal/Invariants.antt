-- `accept::lines_refusal` meets its contract: it knows of the lines passed whether one is out of range.
use Rattle.std.proofs.Common.{◌≡◌}
use Rattle.lists.specs.Below.{any_below}
use Rattle.file_read.specs.Reading.{sheet_of}
use Rattle.file_accept.specs.Parts.{misplaced_in}
use Rattle.file_accept.proofs.lines_refusal.Given as goal

abbrev pub invariant-loop-i : goal.invariant-loop-i
invariant-loop-i l = l.bad ≡ any_below (misplaced_in (sheet_of l.f).lines) l.i
