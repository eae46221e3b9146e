-- `plan::put_lines` meets its contract: after i turns the first i lines are stored.
use native.Mathlib.Numerals.{add-one}
use mathlib.Core.Path.{refl, ◌∙◌}
use Rattle.lists.specs.Below.{all_below}
use Rattle.file_bytes.specs.Stores.{then, put_none, put_length}
use Rattle.file_write.specs.Writing.{lines_out}
use Rattle.file_write.specs.Stores.{lines_length}
use Rattle.file_write.proofs.plan.put_lines.Goals as goal

pub loop-i-init : goal.loop-i-init
unfolding lines_out all_below
loop-i-init c = (refl, put_none _ _)

pub loop-i-preserved : goal.loop-i-preserved
unfolding lines_out all_below
loop-i-preserved c =
    let p = c.put_line.ensures in
    (put_length p ∙ c.loop-i.invariant.0, rw add-one (then c.loop-i.invariant.1 (lines_length c.args.lines.now c.loop-i.i) refl p))

pub shape_of-out : goal.shape_of-out
shape_of-out c = c.loop-i.invariant.0
