-- `plan::put_left` meets its contract: after i turns the first i ids are stored.
use native.Mathlib.Omega.{arith}
use native.Mathlib.Numerals.{add-one}
use mathlib.Core.Path.{refl, ◌∙◌}
use Rattle.lists.specs.Below.{all_below}
use Rattle.file_bytes.specs.Stores.{put, then, put_none, put_length}
use Rattle.file_write.specs.Writing.{ids_out}
use Rattle.file_write.specs.Stores.{ids_length}
use Rattle.file_write.proofs.plan.put_left.Goals as goal

pub loop-i-init : goal.loop-i-init
unfolding ids_out all_below
loop-i-init c = (refl, put_none _ _)

pub loop-i-preserved : goal.loop-i-preserved
unfolding ids_out all_below
loop-i-preserved c =
    let p = put 4 _ c.put_u32.ensures (omega arith) in
    (put_length p ∙ c.loop-i.invariant.0, rw add-one (then c.loop-i.invariant.1 (ids_length c.args.left.now c.loop-i.i) refl p))

pub shape_of-out : goal.shape_of-out
shape_of-out c = c.loop-i.invariant.0
