-- `point_scan::fit::first_block` meets its contract: every box passed is apart, and the one that ends the loop is not.
use mathlib.Core.Path.{◌≡◌, refl, sym, ◌∙◌}
use native.Mathlib.Omega.{arith}
use Rattle.point_state.specs.All.{all, all_more}
use Rattle.point_scan.specs.Passes.{first_block, fail_at, fail_none}
use Rattle.point_scan.proofs.fit.first_block.Goals as goal

pub loop-i-init : goal.loop-i-init
unfolding all
loop-i-init c = refl

pub returns-then-not-apart_by : goal.returns-then-not-apart_by
unfolding first_block
returns-then-not-apart_by c =
    let l = c.loop-i in
    sym (fail_at _ _ l.i (omega arith) l.invariant (sym c.apart_by.ensures ∙ c.if-not-apart_by.true))

pub loop-i-preserved : goal.loop-i-preserved
loop-i-preserved c =
    all_more _ _ c.loop-i.invariant (sym c.apart_by.ensures ∙ c.if-not-apart_by.false)

pub returns : goal.returns
unfolding first_block
returns c =
    let n = c.args.n in
    let e : c.loop-i.i ≡ n = omega arith in
    sym (fail_none _ n (rw e at c.loop-i.invariant))
