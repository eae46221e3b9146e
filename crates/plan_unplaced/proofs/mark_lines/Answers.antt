-- `plan_unplaced::mark_lines` meets its contract: each line adds what its mark says.
use native.Mathlib.Omega.{arith}
use Prim.Native.Nat.{◌≤◌}
use Rattle.plan_unplaced.specs.Marks.{adds_none, adds_more}
use Rattle.plan_unplaced.proofs.mark_lines.Goals as goal

pub loop-j-init : goal.loop-j-init
loop-j-init c = (omega arith, adds_none _ _ _ _ _ c.requires.3)

pub mark-count-requires : goal.mark-count-requires
mark-count-requires c = (c.requires.2, c.loop-j.invariant.1.after.spare)

pub loop-j-preserved : goal.loop-j-preserved
loop-j-preserved c =
    let l = c.loop-j in
    let e : c.mark-count.result ≤ 1 = c.mark-count.ensures.1 in
    (omega arith, adds_more _ _ _ _ _ _ _ _ _ c.requires.2 l.invariant.1 c.mark-count.ensures.0 c.mark-count.ensures.2)

pub overflow_add-count : goal.overflow_add-count
overflow_add-count c = let e = c.mark-count.ensures.1 in omega arith
