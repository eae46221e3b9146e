-- A fresh state. RULES: First placer: state
use Rattle.std.specs.Prelude.{◌≡◌, Bool, false, cond, [], ◌∷◌, set, replicate, None, Result, Ok}
use Rattle.floats.specs.Ops.{nowhere}
use Rattle.domain.specs.Bounds.{most_boxes}
use Rattle.domain.specs.declared.Refusal.{Refusal}
use Rattle.domain.specs.Refusals.{when}
use Rattle.domain.specs.Refusal.{answer_of, accepted_as, no_refusal, no_number}
use Rattle.domain.specs.Laws.{when_none}
use Rattle.measures.specs.declared.Container.{Container}
use Rattle.measures.specs.Faults.{container_fault}
use Rattle.point_state.specs.declared.Label.{Label}
use Rattle.point_state.specs.declared.Spot.{Spot}
use Rattle.point_state.specs.declared.ExtremePointSet.{ExtremePointSet}
use Rattle.point_state.specs.Stores.{most_points}

abbrev pub blank : Label
blank = record { id = 0; instance = 0; mass = None }

abbrev pub blank_spot : Spot
blank_spot = record { position = nowhere; dimensions = nowhere }

-- no box, and one point, the margin on every axis; of a refused container there is no point, and nothing fits
unfoldable pub start_of : Container → Bool → ExtremePointSet
start_of c fault =
    record {
      container = c;
      live = cond fault 0 1;
      held = 0;
      points = set (replicate most_points nowhere) 0 (c.margin ∷ c.margin ∷ c.margin ∷ []);
      boxes = replicate most_boxes blank_spot;
      labels = replicate most_boxes blank;
    }

-- a fresh state of a container, whatever is said of it
abbrev pub fresh_state : Container → ExtremePointSet
fresh_state c = start_of c (container_fault c)

-- a container out of range is refused by 3
abbrev pub fresh_of : Container → Result ExtremePointSet Refusal
fresh_of c = answer_of (when (container_fault c) 3) (fresh_state c)

-- ---- laws: what is not refused is the fresh state of a container in range, and that is not refused

pub record Fair (c : Container) (s : ExtremePointSet) : Type 0 where
  pub in_range : container_fault c ≡ false
  pub state_is : s ≡ fresh_state c

pub fresh_fair : (c : Container) (s : ExtremePointSet) → Ok s ≡ fresh_of c → Fair c s
fresh_fair c s e =
    record {
      in_range = when_none (container_fault c) 2 (no_refusal (when (container_fault c) 3) 0 (fresh_state c) s e);
      state_is = accepted_as (when (container_fault c) 3) 0 (fresh_state c) s e;
    }

pub fair_fresh : (c : Container) → container_fault c ≡ false → Ok (fresh_state c) ≡ fresh_of c
fair_fresh c e = no_number (when (container_fault c) 3) 0 (fresh_state c) (rw e)
