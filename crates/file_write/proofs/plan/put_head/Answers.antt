-- `plan::put_head` meets its contract: after i turns the first i bytes are stored.
use native.Mathlib.Omega.{arith}
use native.Mathlib.Numerals.{add-one}
use mathlib.Core.Path.{refl}
use lib.ListN.{length-set}
use Rattle.file_bytes.specs.Stores.{put_none}
use Rattle.file_write.specs.PlanStores.{head_step}
use Rattle.file_write.proofs.plan.put_head.Goals as goal

pub loop-i-init : goal.loop-i-init
loop-i-init c = (refl, put_none _ _)

pub loop-i-preserved : goal.loop-i-preserved
loop-i-preserved c =
    (simp length-set c.loop-i.invariant.0, rw add-one (head_step c.args.order.now c.loop-i.i (omega arith) c.loop-i.invariant.1))

pub shape_of-out : goal.shape_of-out
shape_of-out c = c.loop-i.invariant.0
