-- `plan::put_head` meets its contract: after i turns the first i bytes are stored.
use mathlib.Core.Path.{◌≡◌}
use lib.ListN.{length}
use Rattle.file_bytes.specs.Bytes.{part}
use Rattle.file_bytes.specs.Stores.{Put}
use Rattle.file_write.proofs.plan.put_head.Given as goal

abbrev pub invariant-loop-i : goal.invariant-loop-i
invariant-loop-i l = (length l.out ≡ length l.initial.out) × Put l.initial.out 0 (part l.order 0 l.i) l.out
