-- `plan::put_left` meets its contract: after i turns the first i ids are stored.
use mathlib.Core.Path.{◌≡◌}
use lib.ListN.{length}
use Rattle.file_bytes.specs.Stores.{Put}
use Rattle.file_write.specs.Writing.{ids_out}
use Rattle.file_write.proofs.plan.put_left.Given as goal

abbrev pub invariant-loop-i : goal.invariant-loop-i
invariant-loop-i l = (length l.out ≡ length l.initial.out) × Put l.initial.out l.start (ids_out l.left l.i) l.out
