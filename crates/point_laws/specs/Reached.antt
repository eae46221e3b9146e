-- Every state of a run is one that the place calls make from a fresh one, so what Reach.antt says holds at each box of it.
use Rattle.std.specs.Prelude.{List, ℕ}
use Rattle.measures.specs.declared.Kind.{Kind}
use Rattle.plan_boxes.specs.declared.Instance.{Instance}
use Rattle.point_state.specs.declared.ExtremePointSet.{ExtremePointSet}
use Rattle.point_stow.specs.Stow.{stowed_by}
use Rattle.point_stow.specs.Keeps.{stow_keeps}
use Rattle.point_laws.specs.Reach.{Reached, next}

pub stow_reached : (s : ExtremePointSet) (kinds : List Kind) (items : List Instance) (n : ℕ) → Reached s → Reached (stowed_by s kinds items n).next
stow_reached = stow_keeps Reached (λ s kind instance o r. next kind instance o r)
