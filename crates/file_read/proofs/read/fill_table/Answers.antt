-- `read::fill_table` meets its contract: after k turns the first k records stand in the first cells.
use Rattle.std.proofs.Common.{refl}
use native.Mathlib.Numerals.{add-one}
use Rattle.lists.specs.Table.{filled}
use Rattle.file_read.proofs.read.fill_table.Goals as goal

pub loop-k-init : goal.loop-k-init
unfolding filled
loop-k-init g c = refl

pub loop-k-preserved : goal.loop-k-preserved
unfolding filled
loop-k-preserved g c = rw (add-one, ← c.loop-k.invariant) (rw (c.read.ensures, c.WIDTH.ensures))
