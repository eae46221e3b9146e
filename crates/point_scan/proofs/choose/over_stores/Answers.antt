-- `point_scan::choose::over_stores` meets its contract: the stores are asked only of counts within the bounds.
use mathlib.Core.Path.{◌≡◌, sym, ◌∙◌}
use mathlib.Core.Bool.{false}
use Rattle.point_state.specs.Counts.{over_counts}
use Rattle.point_scan.specs.Walls.{over_stores}
use Rattle.point_scan.proofs.choose.over_stores.Goals as goal
use Rattle.point_scan.proofs.choose.over_stores.Goals.{Else-over_counts}

pub returns-then-over_counts : goal.returns-then-over_counts
unfolding over_stores
returns-then-over_counts c = rw (sym c.over_counts.ensures ∙ c.if-over_counts.true)

fair : (c : Else-over_counts) → let a = c.args in over_counts a.live a.held ≡ false
fair c = sym c.over_counts.ensures ∙ c.if-over_counts.false

pub returns : goal.returns
unfolding over_stores
returns c = rw (fair c)
