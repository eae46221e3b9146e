-- `table_of` meets its contract: after k turns the first k cells of each column are filled, and no length of the first k kinds was uneven.
use Rattle.std.proofs.Common.{◌≡◌, refl, sym, ◌∙◌, add-one, arith}
use Rattle.std.proofs.lemmas.Result.{err_from_is_err_and}
use Rattle.lists.specs.Below.{any_below}
use Rattle.file_read.specs.Records.{kind_is}
use Rattle.lists.specs.Table.{filled}
use Rattle.fill_thousand.specs.Fill.{uneven_kind}
use Rattle.fill_thousand.specs.FileFill.{uneven_only, even_only, any_one}
use Rattle.fill_thousand.specs.Tabled.{kind_id, kind_solid}
use Rattle.fill_thousand.proofs.table_of.Goals as goal

pub loop-k-init : goal.loop-k-init
unfolding any_below filled
loop-k-init c = record { none_odd = refl; ids_are = refl; solids_are = refl }

pub loop-k-preserved : goal.loop-k-preserved
unfolding any_below uneven_kind filled kind_id kind_solid
loop-k-preserved c =
    let e = c.kind_in-kind.ensures ∙ kind_is _ _ c.requires.readable (omega arith) in
    record {
      none_odd = rw (add-one, c.loop-k.invariant.none_odd) (rw e at (sym c.uneven.ensures ∙ even_only _ _ _ c.in_ok-refuse.ensures));
      ids_are = rw (add-one, ← c.loop-k.invariant.ids_are) (rw e);
      solids_are = rw (add-one, ← c.loop-k.invariant.solids_are) (rw c.solid.ensures.value (rw e));
    }

pub returns-in_err-refuse : goal.returns-in_err-refuse
unfolding uneven_kind
returns-in_err-refuse c =
    let p = err_from_is_err_and c.from_residual.result c.from_residual.ensures.1 in
    let e = c.kind_in-kind.ensures ∙ kind_is _ _ c.requires.readable (omega arith) in
    let o = uneven_only _ _ _ c.in_err-refuse.ensures in
    rw (p.1, p.2) (record { some_odd = any_one _ _ c.loop-k.k c.loop-k-test.true (rw e at (sym c.uneven.ensures ∙ o.0)); refused = o.1 })

pub returns : goal.returns
returns c =
    let e : c.loop-k.k ≡ c.args.m = omega arith in
    record { none_odd = rw e at c.loop-k.invariant.none_odd; ids_are = rw e at c.loop-k.invariant.ids_are; solids_are = rw e at c.loop-k.invariant.solids_are }
