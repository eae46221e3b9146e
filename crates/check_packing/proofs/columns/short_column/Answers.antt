-- `columns::short_column` meets its contract: after k turns the first k cells are filled.
use mathlib.Core.Path.{◌≡◌, refl}
use native.Mathlib.Numerals.{add-one}
use Rattle.lists.specs.Table.{filled}
use Rattle.check_packing.specs.Columns.{short_in}
use native.Mathlib.Omega.{arith}
use Rattle.check_packing.proofs.columns.short_column.Goals as goal

pub loop-k-init : goal.loop-k-init
unfolding filled
loop-k-init c = refl

pub loop-k-preserved : goal.loop-k-preserved
unfolding filled short_in
loop-k-preserved c = rw add-one (cc)

pub returns : goal.returns
returns c =
    let e : c.loop-k.k ≡ c.args.m = omega arith in
    rw e at c.loop-k.invariant
