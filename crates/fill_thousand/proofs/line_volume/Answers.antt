-- `line_volume` meets its contract: after k turns the sum is over the first k kinds.
use Rattle.std.proofs.Common.{◌≡◌, refl, add-one, arith}
use Rattle.lists.specs.Below.{sum_below}
use Rattle.fill_thousand.specs.Tabled.{volume_if}
use Rattle.fill_thousand.proofs.line_volume.Goals as goal

pub loop-k-init : goal.loop-k-init
unfolding sum_below
loop-k-init c = record { most = omega arith; sum_is = refl }

pub overflow_add-t : goal.overflow_add-t
overflow_add-t c = omega (arith, c.requires.small c.loop-k.k (omega arith), c.volume_if-t.ensures.most)

pub loop-k-preserved : goal.loop-k-preserved
unfolding sum_below volume_if
loop-k-preserved c =
    let b = c.requires.small c.loop-k.k (omega arith) in
    record { most = omega (arith, c.volume_if-t.ensures.most); sum_is = rw (add-one, ← c.loop-k.invariant.sum_is) (rw c.volume_if-t.ensures.value) }

pub returns : goal.returns
returns c = let e : c.loop-k.k ≡ c.args.m = omega arith in rw e at c.loop-k.invariant.sum_is
