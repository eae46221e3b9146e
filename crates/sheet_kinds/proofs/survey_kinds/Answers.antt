-- `sheet_kinds::survey_kinds` meets its contract: ids, total and first fault are those of the kinds passed.
use Rattle.std.proofs.Common.{◌≡◌, ◌≤◌, ◌∙◌, length, refl, arith, add-one, ltb-false}
use Rattle.std.proofs.lemmas.Result.{err_from_is_err_and}
use Rattle.lists.specs.Table.{filled}
use Rattle.lists.specs.Below.{sum_below}
use Rattle.domain.specs.Bounds.{most_kinds}
use Rattle.domain.specs.Refusals.{first_below}
use Rattle.domain.specs.Refusal.{refused_as, no_refusal, no_number}
use Rattle.domain.specs.Laws.{when_none}
use Rattle.sheet.specs.Sheets.{kind_fault_in, quantity_of}
use Rattle.sheet.specs.Ids.{tested_as}
use Rattle.sheet_kinds.specs.Survey.{place_below, fault_below, fault_next, survey_of}
use Rattle.sheet_kinds.proofs.survey_kinds.Goals as goal
use Rattle.sheet_kinds.proofs.survey_kinds.Goals.{In_ok-refuse}

few : (c : In_ok-refuse) → length c.args.ks.now ≤ most_kinds
few c = ltb-false most_kinds (length c.args.ks.now) (when_none _ 1 (no_refusal _ 0 tt tt c.in_ok-refuse.ensures))

pub returns-in_err-refuse : goal.returns-in_err-refuse
unfolding survey_of
returns-in_err-refuse c =
    let p = err_from_is_err_and c.from_residual.result c.from_residual.ensures.1 in
    rw (p.1, p.2) (refused_as _ 0 tt _ _ c.in_err-refuse.ensures)

pub loop-k-init : goal.loop-k-init
unfolding filled sum_below first_below place_below fault_below
loop-k-init c = record { ids_are = refl; small = omega arith; total_is = refl; fault_is = refl }

pub overflow_add-total : goal.overflow_add-total
overflow_add-total c = let f = few (goal.at.overflow_add-total c).In_ok-refuse in let e = c.from-total.ensures in omega arith

pub bounds-ids-k : goal.bounds-ids-k
bounds-ids-k c = let f = few (goal.at.bounds-ids-k c).In_ok-refuse in omega arith

pub loop-k-preserved : goal.loop-k-preserved
unfolding filled sum_below quantity_of
loop-k-preserved c =
    let f = few (goal.at.loop-k-preserved c).In_ok-refuse in
    let ks = c.args.ks.now in
    let k = c.loop-k.k in
    let i = c.loop-k.invariant in
    let e = c.from-total.ensures in
    let t = tested_as ks c.loop-k.ids k i.ids_are (omega arith) in
    record {
      ids_are = rw (add-one, ← i.ids_are);
      small = omega arith;
      total_is = rw (add-one, ← i.total_is) (rw e);
      fault_is = c.first_fault-fault.ensures
          ∙ rw (i.fault_is, c.kind_fault-test.ensures, c.is_among.ensures, t, add-one)
          (fault_next (kind_fault_in ks) k);
    }

pub returns : goal.returns
unfolding survey_of
returns c =
    let i = c.loop-k.invariant in
    let e : c.loop-k.k ≡ length c.args.ks.now = omega arith in
    let n = no_refusal _ 0 tt tt c.in_ok-refuse.ensures in
    rw (rw e at i.total_is, rw e at i.fault_is) (no_number _ 0 _ n)
