-- `point_place::refusal_of` meets its contract: the three refusals in their order.
use Rattle.std.proofs.Common.{◌∙◌}
use Rattle.std.proofs.lemmas.Result.{err_from_is_err_and}
use Rattle.domain.specs.Refusal.{first_refuses, first_passes}
use Rattle.point_place.specs.Place.{refusal_of}
use Rattle.point_place.proofs.refusal_of.Goals as goal

pub returns-in_err-within : goal.returns-in_err-within
unfolding refusal_of
returns-in_err-within c =
    let p = err_from_is_err_and c.from_residual.result c.from_residual.ensures.1 in
    rw (p.1, p.2) (first_refuses _ _ 0 tt tt _ c.in_err-within.ensures)

pub returns-in_err-kind_fault : goal.returns-in_err-kind_fault
unfolding refusal_of
returns-in_err-kind_fault c =
    let p = err_from_is_err_and c.from_residual-in_err-kind_fault.result c.from_residual-in_err-kind_fault.ensures.1 in
    rw (p.1, p.2) (first_refuses _ _ 0 tt tt _ c.in_err-kind_fault.ensures ∙ first_passes _ _ 0 tt tt tt c.in_ok-within.ensures)

pub returns : goal.returns
unfolding refusal_of
returns c = c.refuse.ensures ∙ first_passes _ _ 0 tt tt tt c.in_ok-kind_fault.ensures ∙ first_passes _ _ 0 tt tt tt c.in_ok-within.ensures
