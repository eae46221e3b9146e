-- What the calls that only read a state answer: the refusal of a state whose counts are over the bounds, and else what is read.
-- RULES: First placer: state
use Rattle.std.specs.Prelude.{Bool, cond, ℕ, ltb, Option, Some, None, Result}
use Rattle.domain.specs.declared.Refusal.{Refusal}
use Rattle.domain.specs.Refusals.{when}
use Rattle.domain.specs.Refusal.{answer_of}
use Rattle.point_state.specs.declared.ExtremePointSet.{ExtremePointSet}
use Rattle.point_state.specs.declared.PlacedBox.{PlacedBox}
use Rattle.point_state.specs.Counts.{over}
use Rattle.point_state.specs.Boxes.{box_at}

-- what is read of a state, or 2 where its counts are over the bounds
abbrev pub told : {A : Type 0} → Bool → A → Result A Refusal
told over v = answer_of (when over 2) v

-- `placed_box`: past the boxes placed there is none, which is no refusal
unfoldable pub placed_at : ExtremePointSet → ℕ → Result (Option PlacedBox) Refusal
placed_at s i = told (over s) (cond (ltb i s.held) (Some (box_at s i)) None)
