-- `plan_unplaced::in_file::put_ids` meets its contract: each turn stores one id more.
use mathlib.Core.Path.{refl}
use native.Mathlib.Numerals.{add-one}
use Rattle.lists.specs.Table.{filled}
use Rattle.plan_unplaced.proofs.in_file.put_ids.Goals as goal

pub loop-j-init : goal.loop-j-init
unfolding filled
loop-j-init c = refl

pub loop-j-preserved : goal.loop-j-preserved
unfolding filled
loop-j-preserved c = rw (add-one, c.loop-j.invariant)
