-- `measures::kind_fault` meets its contract: the three refusals in their order.
use mathlib.Core.Path.{◌∙◌}
use Rattle.std.proofs.lemmas.Result.{err_from_is_err_and}
use Rattle.domain.specs.Refusal.{first_refuses, first_passes}
use Rattle.measures.specs.Faults.{kind_fault}
use Rattle.measures.proofs.kind_fault.Goals as goal

pub returns-in_err-refuse : goal.returns-in_err-refuse
unfolding kind_fault
returns-in_err-refuse c =
    let p = err_from_is_err_and c.from_residual.result c.from_residual.ensures.1 in
    rw (p.1, p.2) (first_refuses _ _ 0 tt tt _ (rw c.record_fault.ensures at c.in_err-refuse.ensures))

pub returns-in_err-refuse-2 : goal.returns-in_err-refuse-2
unfolding kind_fault
returns-in_err-refuse-2 c =
    let p = err_from_is_err_and c.from_residual-in_err-refuse-2.result c.from_residual-in_err-refuse-2.ensures.1 in
    rw (p.1, p.2)
    (first_refuses _ _ 0 tt tt _ (rw c.measure_fault.ensures at c.in_err-refuse-2.ensures)
    ∙ first_passes _ _ 0 tt tt tt (rw c.record_fault.ensures at c.in_ok-refuse.ensures))

pub returns : goal.returns
unfolding kind_fault
returns c =
    c.refuse-3.ensures
    ∙ first_passes _ _ 0 tt tt tt (rw c.measure_fault.ensures at c.in_ok-refuse-2.ensures)
    ∙ first_passes _ _ 0 tt tt tt (rw c.record_fault.ensures at c.in_ok-refuse.ensures)
