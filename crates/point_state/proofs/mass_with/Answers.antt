-- `point_state::mass_with` meets its contract: by whether the box has a mass.
use Rattle.point_state.specs.Boxes.{mass_with}
use Rattle.point_state.proofs.mass_with.Goals as goal

pub returns-in-Some : goal.returns-in-Some
unfolding mass_with
returns-in-Some c = rw c.in-Some.is

pub returns-in-None : goal.returns-in-None
unfolding mass_with
returns-in-None c = rw c.in-None.is
