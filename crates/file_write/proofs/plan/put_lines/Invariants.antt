-- `plan::put_lines` meets its contract: after i turns the first i lines are stored.
use mathlib.Core.Path.{◌≡◌}
use lib.ListN.{length}
use Rattle.file_bytes.specs.Stores.{Put}
use Rattle.file_write.specs.Writing.{lines_out}
use Rattle.file_write.proofs.plan.put_lines.Given as goal

abbrev pub invariant-loop-i : goal.invariant-loop-i
invariant-loop-i l = (length l.out ≡ length l.initial.out) × Put l.initial.out l.start (lines_out l.lines l.i) l.out
