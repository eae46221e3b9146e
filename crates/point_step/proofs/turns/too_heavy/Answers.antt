-- `point_step::turns::too_heavy` meets its contract.
use Rattle.point_step.specs.Pick.{too_heavy}
use Rattle.point_step.proofs.turns.too_heavy.Goals as goal

pub returns : goal.returns
unfolding too_heavy
returns c = rw c.has_mass.ensures
