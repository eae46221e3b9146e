-- `columns::kind_columns` meets its contract: after k turns the first k cells of each column are filled.
use mathlib.Core.Path.{◌≡◌, refl, ap, ◌∙◌}
use Prim.Native.Nat.{◌≤◌}
use native.Mathlib.Numerals.{add-one}
use native.Mathlib.Omega.{arith}
use Rattle.domain.specs.Bounds.{most_kinds}
use Rattle.lists.specs.Table.{filled}
use Rattle.lists.specs.Below.{sum_below}
use Rattle.measures.specs.declared.Kind.{Kind}
use Rattle.sheet.specs.Sheets.{quantity_of}
use Rattle.check_packing.specs.Columns.{kind_id, kind_many, kind_first}
use Rattle.check_packing.proofs.Read.{sound, few_kinds, kinds_are, kind_read}
use Rattle.check_packing.proofs.Marks.{first_few}
use Rattle.check_packing.proofs.columns.kind_columns.Goals as goal
use Rattle.check_packing.proofs.columns.kind_columns.Goals.{After-kind_in-kind}

pub loop-k-init : goal.loop-k-init
unfolding filled kind_first sum_below
loop-k-init c = record { all_is = refl; ids_are = refl; many_are = refl }

inside : (c : After-kind_in-kind) → c.args.a.kinds ≤ most_kinds
inside c = few_kinds _ _ c.requires

pub loop-k-preserved : goal.loop-k-preserved
unfolding filled kind_id kind_many kind_first sum_below quantity_of
loop-k-preserved c =
    let e = c.kind_in-kind.ensures ∙ kind_read _ _ c.requires c.loop-k.k c.loop-k-test.true in
    record {
      all_is = rw (add-one, ← c.loop-k.invariant.all_is) (rw e);
      ids_are = rw (add-one, ← c.loop-k.invariant.ids_are) (rw e);
      many_are = rw (add-one, ← c.loop-k.invariant.many_are) (rw e);
    }

-- the boxes of all kinds together are not too many for the sum
pub overflow_add-all : goal.overflow_add-all
overflow_add-all c =
    let t = c.requires in
    let less = c.loop-k-test.true in
    let e = c.kind_in-kind.ensures ∙ kind_read _ _ t c.loop-k.k less in
    omega (arith, c.loop-k.invariant.all_is, ap (λ (x : Kind). x.quantity) e, first_few _ (sound _ _ t) c.loop-k.k (rw (kinds_are _ _ t) at less))

pub returns : goal.returns
returns c =
    let e : c.loop-k.k ≡ c.args.a.kinds = omega arith in
    (rw e at c.loop-k.invariant.all_is, rw e at c.loop-k.invariant.ids_are, rw e at c.loop-k.invariant.many_are)

pub offset_bounds-ids-k : goal.offset_bounds-ids-k
offset_bounds-ids-k c = omega (arith, inside c)

pub bounds-ids-k : goal.bounds-ids-k
bounds-ids-k c = omega (arith, inside (goal.at.bounds-ids-k c).After-kind_in-kind)

pub offset_bounds-many-k : goal.offset_bounds-many-k
offset_bounds-many-k c = omega (arith, inside (goal.at.offset_bounds-many-k c).After-kind_in-kind)

pub bounds-many-k : goal.bounds-many-k
bounds-many-k c = omega (arith, inside (goal.at.bounds-many-k c).After-kind_in-kind)
