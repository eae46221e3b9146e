-- `sheet::kinds_fault` meets its contract: no kind passed is refused, and the one that is decides.
use Rattle.std.proofs.Common.{◌≡◌, length, refl, arith, add-one}
use Rattle.std.proofs.lemmas.Result.{err_from_is_err_and}
use Rattle.lists.specs.Table.{filled}
use Rattle.domain.specs.Refusals.{first_below}
use Rattle.domain.specs.Refusal.{first_at, no_refusal, no_number, none_to}
use Rattle.sheet.specs.Sheets.{kind_fault_in}
use Rattle.sheet.specs.Ids.{tested_as}
use Rattle.sheet.proofs.kinds_fault.Goals as goal

pub loop-k-init : goal.loop-k-init
unfolding first_below filled
loop-k-init c = record { none = refl; ids_are = refl }

pub returns-in_err-kind_fault : goal.returns-in_err-kind_fault
returns-in_err-kind_fault c =
    let p = err_from_is_err_and c.from_residual.result c.from_residual.ensures.1 in
    let g = kind_fault_in c.args.kinds.now in
    let e = tested_as c.args.kinds.now c.loop-k.ids c.loop-k.k c.loop-k.invariant.ids_are (omega arith) in
    rw (p.1, p.2)
    (first_at g (length c.args.kinds.now) c.loop-k.k 0 tt tt _ c.loop-k.invariant.none c.loop-k-test.true
    (rw e at rw c.is_among.ensures at c.in_err-kind_fault.ensures))

pub loop-k-preserved : goal.loop-k-preserved
unfolding filled
loop-k-preserved c =
    let g = kind_fault_in c.args.kinds.now in
    let e = tested_as c.args.kinds.now c.loop-k.ids c.loop-k.k c.loop-k.invariant.ids_are (omega arith) in
    record {
      none = none_to g c.loop-k.k c.loop-k.invariant.none (no_refusal _ 0 tt tt (rw e at rw c.is_among.ensures at c.in_ok-kind_fault.ensures));
      ids_are = rw (add-one, ← c.loop-k.invariant.ids_are);
    }

pub returns : goal.returns
returns c =
    let e : c.loop-k.k ≡ length c.args.kinds.now = omega arith in
    no_number _ 0 tt (rw e at c.loop-k.invariant.none)
