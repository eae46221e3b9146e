-- `columns::mass_or_none` meets its contract, by the flag.
use mathlib.Core.Path.{sym, ◌∙◌}
use Rattle.check_packing.proofs.columns.mass_or_none.Goals as goal

pub returns-then-has_mass : goal.returns-then-has_mass
returns-then-has_mass c = rw (sym c.has_mass.ensures ∙ c.if-has_mass.true)

pub returns : goal.returns
returns c = rw (sym c.has_mass.ensures ∙ c.if-has_mass.false)
