-- `point_step::turns::has_spare` meets its contract: the stores are asked only with counts within the bounds.
use mathlib.Core.Path.{◌≡◌, sym, ◌∙◌}
use mathlib.Core.Bool.{false}
use native.Mathlib.Omega.{arith}
use Rattle.point_state.specs.Counts.{over_counts, Within, within_counts}
use Rattle.point_step.specs.Pick.{spare}
use Rattle.point_step.proofs.turns.has_spare.Goals as goal
use Rattle.point_step.proofs.turns.has_spare.Goals.{Else-over_counts}

pub returns-then-over_counts : goal.returns-then-over_counts
unfolding spare
returns-then-over_counts c = rw (sym c.over_counts.ensures ∙ c.if-over_counts.true)

fair : (c : Else-over_counts) → let a = c.args in over_counts a.live a.held ≡ false
fair c = sym c.over_counts.ensures ∙ c.if-over_counts.false

within : (c : Else-over_counts) → let a = c.args in Within a.live a.held
within c = within_counts _ _ (fair c)

pub returns : goal.returns
unfolding spare
returns c = rw (fair c)

pub overflow_add-result : goal.overflow_add-result
overflow_add-result c = let h = (within c).room in let f = (within c).few in omega arith
