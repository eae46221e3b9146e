-- `sheet::total_quantity` meets its contract: the sum is over the kinds passed, and each adds a number of 32 bits.
use Rattle.std.proofs.Common.{refl, arith, add-one}
use Rattle.lists.specs.Below.{sum_below}
use Rattle.sheet.specs.Sheets.{quantity_of}
use Rattle.sheet.proofs.total_quantity.Goals as goal

pub loop-kind-init : goal.loop-kind-init
unfolding sum_below
loop-kind-init c = record { small = omega arith; sum_is = refl }

pub loop-kind-preserved : goal.loop-kind-preserved
unfolding sum_below quantity_of
loop-kind-preserved c =
    let e = c.from-total.ensures in
    record { small = omega arith; sum_is = rw (add-one, ← c.loop-kind.invariant.sum_is) (rw e) }
