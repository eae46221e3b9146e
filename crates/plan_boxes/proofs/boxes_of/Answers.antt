-- `boxes_of` meets its contract: after k turns it has the boxes of the first k kinds.
use mathlib.Core.Path.{◌≡◌, refl}
use native.Mathlib.Omega.{arith}
use native.Mathlib.Numerals.{add-one}
use borrow.Author.Tests.{lt-ltb, le-ltb}
use Rattle.lists.specs.Below.{sum_below}
use Rattle.plan_boxes.specs.Files.{quantity_from, boxes_from}
use Rattle.plan_boxes.proofs.boxes_of.Goals as goal

pub returns-then-m-gt-MOST_KINDS : goal.returns-then-m-gt-MOST_KINDS
unfolding boxes_from
returns-then-m-gt-MOST_KINDS c = rw (lt-ltb _ _ c.if-m-gt-MOST_KINDS.true)

pub loop-k-init : goal.loop-k-init
unfolding sum_below
loop-k-init c = (omega arith, refl)

pub loop-k-preserved : goal.loop-k-preserved
unfolding sum_below quantity_from
loop-k-preserved c =
    let e = c.kind_in-kind.ensures in
    (omega arith, rw (add-one, ← c.loop-k.invariant.1) (rw c.from-t.ensures (rw e)))

pub returns : goal.returns
unfolding boxes_from
returns c =
    let e : c.loop-k.k ≡ c.args.m = omega arith in
    rw (le-ltb _ _ c.if-m-gt-MOST_KINDS.false) (rw e at c.loop-k.invariant.1)
