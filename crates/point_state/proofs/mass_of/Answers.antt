-- `point_state::mass_of` meets its contract: by whether the box has a mass.
use mathlib.Core.Path.{sym, ◌∙◌}
use Rattle.point_state.specs.Boxes.{mass_of}
use Rattle.point_state.proofs.mass_of.Goals as goal

pub returns-then-has_mass : goal.returns-then-has_mass
unfolding mass_of
returns-then-has_mass c = rw (sym c.has_mass.ensures ∙ c.if-has_mass.true)

pub returns : goal.returns
unfolding mass_of
returns c = rw (sym c.has_mass.ensures ∙ c.if-has_mass.false)
