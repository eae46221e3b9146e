-- `plan_unplaced::no_marks` meets its contract, by computation.
use mathlib.Core.Path.{refl}
use Rattle.plan_unplaced.specs.Marks.{no_marks}
use Rattle.plan_unplaced.proofs.no_marks.Goals as goal

pub returns : goal.returns
unfolding no_marks
returns c = refl
