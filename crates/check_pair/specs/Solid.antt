-- Boxes whose corners are numbers: every box of an accepted sheet is one.
use Rattle.std.specs.Prelude.{ℕ, ◌<◌, not, T, get_or}
use Rattle.std.specs.Float.{nan}
use Rattle.std.specs.Float.Ieee.{is_nan}
use Rattle.std.specs.Float.Ieee.Scale.{finite}
use Rattle.check_pair.specs.declared.Extent.{Extent}

-- the near corner is finite, and the far one has no NaN in it
pub record Solid (e : Extent) : Type 0 where
  pub near : (axis : ℕ) → axis < 3 → T (finite (get_or e.min axis nan))
  pub far : (axis : ℕ) → axis < 3 → T (not (is_nan (get_or e.max axis nan)))
