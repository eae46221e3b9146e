-- `fitness_refusal` meets its contract: the two refusals in their order.
use Rattle.std.proofs.Common.{◌∙◌}
use Rattle.std.proofs.lemmas.Result.{err_from_is_err_and}
use Rattle.domain.specs.Refusal.{first_refuses, first_passes}
use Rattle.layer_fitness.specs.Fitness.{fitness_refusal}
use Rattle.layer_fitness.proofs.fitness_refusal.Goals as goal

pub returns-in_err-refuse : goal.returns-in_err-refuse
unfolding fitness_refusal
returns-in_err-refuse c =
    let p = err_from_is_err_and c.from_residual.result c.from_residual.ensures.1 in
    rw (p.1, p.2) (first_refuses _ _ 0 tt tt _ c.in_err-refuse.ensures)

pub returns : goal.returns
unfolding fitness_refusal
returns c = (rw c.is_measure.ensures at c.refuse-2.ensures) ∙ first_passes _ _ 0 tt tt tt c.in_ok-refuse.ensures
