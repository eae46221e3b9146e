-- `packing_fitness` meets its contract: the refusal, or what the counts and the fill come to.
use Rattle.std.proofs.Common.{◌≡◌, arith}
use Rattle.std.proofs.lemmas.Result.{err_from_is_err_and}
use Rattle.domain.specs.Refusal.{refused_as, no_number, no_refusal}
use Rattle.layer_fitness.specs.Fitness.{fitness_refusal, rated_of, Few, few_counts}
use Rattle.layer_fitness.proofs.packing_fitness.Goals as goal
use Rattle.layer_fitness.proofs.packing_fitness.Goals.{In_ok-fitness_refusal}

pub returns-in_err-fitness_refusal : goal.returns-in_err-fitness_refusal
unfolding rated_of
returns-in_err-fitness_refusal c =
    let p = err_from_is_err_and c.from_residual.result c.from_residual.ensures.1 in
    rw (p.1, p.2) (refused_as _ 0 tt _ _ c.in_err-fitness_refusal.ensures)

-- past the test nothing is refused, and the counts are no larger than they may be
taken : (c : In_ok-fitness_refusal) → fitness_refusal c.args.placed c.args.total c.args.fill ≡ 0
taken c = no_refusal _ 0 tt tt c.in_ok-fitness_refusal.ensures

few : (c : In_ok-fitness_refusal) → Few c.args.placed c.args.total
few c = few_counts _ _ c.args.fill (taken c)

pub overflow_cast-placed : goal.overflow_cast-placed
overflow_cast-placed c = let f = (few (goal.at.overflow_cast-placed c).In_ok-fitness_refusal).placed_few in record { fits = omega arith }

pub overflow_cast-total : goal.overflow_cast-total
overflow_cast-total c = let f = (few (goal.at.overflow_cast-total c).In_ok-fitness_refusal).total_few in record { fits = omega arith }

pub returns : goal.returns
unfolding rated_of
returns c = rw (c.from.ensures, c.from-2.ensures, c.max.ensures) (no_number _ 0 _ (taken (goal.at.returns c).In_ok-fitness_refusal))
