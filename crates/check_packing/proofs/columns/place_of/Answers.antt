-- `columns::place_of` meets its contract: what was passed is not the id.
use mathlib.Core.Path.{◌≡◌, refl, sym}
use native.Mathlib.Numerals.{add-one}
use Rattle.check_packing.specs.Columns.{place_below}
use Rattle.check_packing.proofs.Places.{place_miss, place_hit}
use native.Mathlib.Omega.{arith}
use Rattle.check_packing.proofs.columns.place_of.Goals as goal

pub loop-k-init : goal.loop-k-init
unfolding place_below
loop-k-init c = refl

pub returns-then-ids-k : goal.returns-then-ids-k
returns-then-ids-k c = sym (place_hit _ _ c.loop-k.k _ (omega arith) c.loop-k.invariant c.if-ids-k.true)

pub loop-k-preserved : goal.loop-k-preserved
loop-k-preserved c = rw add-one (place_miss _ _ c.loop-k.k c.loop-k.invariant c.if-ids-k.false)

pub returns : goal.returns
returns c =
    let e : c.loop-k.k ≡ c.args.m = omega arith in
    sym (rw e at c.loop-k.invariant)
