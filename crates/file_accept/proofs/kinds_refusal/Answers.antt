-- `accept::kinds_refusal` meets its contract: no kind passed is refused, and ids and total are those of the kinds passed.
use Rattle.std.proofs.Common.{◌≡◌, ◌∙◌, refl, ap, arith, add-one}
use Rattle.std.proofs.lemmas.Result.{err_from_is_err_and}
use Rattle.lists.specs.Table.{filled}
use Rattle.lists.specs.Below.{sum_below}
use Rattle.domain.specs.Refusals.{first_below}
use Rattle.domain.specs.Refusal.{first_refuses, first_passes, first_at, none_to, no_refusal, no_number}
use Rattle.sheet.specs.declared.Counts.{Counts}
use Rattle.sheet.specs.Sheets.{kind_fault_in, quantity_of}
use Rattle.sheet.specs.Ids.{tested_as}
use Rattle.file_read.specs.Reading.{sheet_of}
use Rattle.file_read.specs.Records.{bounds, many_is, kind_is}
use Rattle.file_accept.specs.Parts.{kinds_refusal}
use Rattle.file_accept.proofs.kinds_refusal.Goals as goal

pub loop-k-init : goal.loop-k-init
unfolding filled first_below sum_below
loop-k-init c = record { small = omega arith; ids_are = refl; none = refl; total_is = refl }

pub overflow_add-total : goal.overflow_add-total
overflow_add-total c = let b = bounds _ c.requires.0 in let e = c.from-total.ensures in omega arith

pub bounds-ids-k : goal.bounds-ids-k
bounds-ids-k c = let b = bounds _ c.requires.0 in omega arith

pub returns-in_err-kind_fault : goal.returns-in_err-kind_fault
unfolding kinds_refusal
returns-in_err-kind_fault c =
    let p = err_from_is_err_and c.from_residual.result c.from_residual.ensures.1 in
    let b = bounds _ c.requires.0 in
    let kinds = (sheet_of c.args.f.now).kinds in
    let e = c.kind_in-kind.ensures ∙ kind_is _ _ c.requires.0 (omega arith) in
    let t = tested_as kinds c.loop-k.ids c.loop-k.k c.loop-k.invariant.ids_are (omega arith) in
    let n = c.requires.1 ∙ ap (λ (m : Counts). m.kinds) (many_is c.args.f.now) in
    rw (p.1, p.2)
    (first_refuses _ _ 0 (tt {0}) tt _
    (first_at (kind_fault_in kinds) (sheet_of c.args.f.now).many.kinds c.loop-k.k 0 tt (tt {0}) _ c.loop-k.invariant.none (rw n at c.loop-k-test.true)
    (rw t at rw e at rw c.is_among.ensures at c.in_err-kind_fault.ensures)))

pub loop-k-preserved : goal.loop-k-preserved
unfolding filled sum_below quantity_of
loop-k-preserved c =
    let b = bounds _ c.requires.0 in
    let kinds = (sheet_of c.args.f.now).kinds in
    let i = c.loop-k.invariant in
    let e = c.kind_in-kind.ensures ∙ kind_is _ _ c.requires.0 (omega arith) in
    let q = c.from-total.ensures in
    let t = tested_as kinds c.loop-k.ids c.loop-k.k i.ids_are (omega arith) in
    record {
      small = omega arith;
      ids_are = rw (add-one, ← i.ids_are) (rw e);
      none = none_to (kind_fault_in kinds) c.loop-k.k i.none
          (no_refusal _ 0 tt tt (rw t at rw e at rw c.is_among.ensures at c.in_ok-kind_fault.ensures));
      total_is = rw (add-one, ← i.total_is) (rw q (rw e));
    }

pub returns : goal.returns
unfolding kinds_refusal
returns c =
    let e : c.loop-k.k ≡ c.args.n = omega arith in
    let q = e ∙ c.requires.1 ∙ ap (λ (m : Counts). m.kinds) (many_is c.args.f.now) in
    (rw (rw q at c.loop-k.invariant.total_is) at c.refuse.ensures)
    ∙ first_passes _ _ 0 (tt {0}) (tt {0}) tt (no_number _ 0 (tt {0}) (rw q at c.loop-k.invariant.none))
