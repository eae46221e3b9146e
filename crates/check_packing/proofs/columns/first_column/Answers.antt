-- `columns::first_column` meets its contract: before kind k the quantities of those before it are summed.
use mathlib.Core.Path.{◌≡◌, refl}
use Prim.Native.Nat.{◌≤◌}
use native.Mathlib.Numerals.{add-one}
use native.Mathlib.Omega.{arith}
use Rattle.domain.specs.Bounds.{most_kinds}
use Rattle.lists.specs.Below.{sum_below}
use Rattle.lists.specs.Table.{filled}
use Rattle.sheet.specs.Sheets.{quantity_of}
use Rattle.check_packing.specs.Columns.{kind_many, kind_first}
use Rattle.check_packing.proofs.Read.{sound, few_kinds, kinds_are}
use Rattle.check_packing.proofs.Marks.{first_few}
use Rattle.check_packing.proofs.columns.first_column.Goals as goal
use Rattle.check_packing.proofs.columns.first_column.Goals.{In-loop-k}

pub loop-k-init : goal.loop-k-init
unfolding filled kind_first sum_below
loop-k-init c = record { sum_is = refl; firsts_are = refl }

inside : (c : In-loop-k) → c.args.a.kinds ≤ most_kinds
inside c = few_kinds _ _ c.requires.0

pub overflow_add-sum : goal.overflow_add-sum
unfolding kind_many
overflow_add-sum c =
    let less = c.loop-k-test.true in
    let q = c.requires.1 c.loop-k.k less in
    omega (arith, c.loop-k.invariant.sum_is, q, first_few _ (sound _ _ c.requires.0) c.loop-k.k (rw (kinds_are _ _ c.requires.0) at less))

pub loop-k-preserved : goal.loop-k-preserved
unfolding filled kind_first sum_below quantity_of kind_many
loop-k-preserved c =
    let q = c.requires.1 c.loop-k.k c.loop-k-test.true in
    record {
      sum_is = rw (add-one, ← c.loop-k.invariant.sum_is) (rw q);
      firsts_are = rw (add-one, ← c.loop-k.invariant.firsts_are) (rw c.loop-k.invariant.sum_is);
    }

pub returns : goal.returns
returns c =
    let e : c.loop-k.k ≡ c.args.a.kinds = omega arith in
    rw e at c.loop-k.invariant.firsts_are

pub offset_bounds-firsts-k : goal.offset_bounds-firsts-k
offset_bounds-firsts-k c = omega (arith, inside c)

pub bounds-firsts-k : goal.bounds-firsts-k
bounds-firsts-k c = omega (arith, inside (goal.at.bounds-firsts-k c).In-loop-k)

pub offset_bounds-many-k : goal.offset_bounds-many-k
offset_bounds-many-k c = omega (arith, inside (goal.at.offset_bounds-many-k c).In-loop-k)

pub bounds-many-k : goal.bounds-many-k
bounds-many-k c = omega (arith, inside (goal.at.bounds-many-k c).In-loop-k)
