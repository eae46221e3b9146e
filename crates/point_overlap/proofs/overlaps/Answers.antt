-- `point_overlap::overlaps` meets its contract: refused, or the tests.
use Rattle.std.proofs.lemmas.Result.{err_from_is_err_and}
use Rattle.domain.specs.Refusal.{refused_as, no_refusal, no_number}
use Rattle.point_overlap.proofs.overlaps.Goals as goal

pub returns-in_err-refuse : goal.returns-in_err-refuse
returns-in_err-refuse c =
    let p = err_from_is_err_and c.from_residual.result c.from_residual.ensures.1 in
    rw (p.1, p.2) (refused_as _ 0 tt _ _ (rw (c.box_fault-2.ensures, c.box_fault.ensures) at c.in_err-refuse.ensures))

pub returns : goal.returns
returns c =
    rw c.overlapping.ensures (no_number _ 0 _ (no_refusal _ 0 tt tt (rw (c.box_fault-2.ensures, c.box_fault.ensures) at c.in_ok-refuse.ensures)))
