-- RULES: Second placer: cursor. The answer to one box at a lent cursor, and the cursor after it.
use Rattle.std.specs.Prelude.{◌≡◌, refl, Bool, false, not, ◌||◌, List, Option, Some, None, Result, Ok, Err, Float}
use Rattle.floats.specs.Ops.{x, y, z}
use Rattle.domain.specs.Ranges.{is_length}
use Rattle.domain.specs.declared.Refusal.{Refusal}
use Rattle.domain.specs.Refusals.{when}
use Rattle.domain.specs.Refusal.{answer_with, answer_of}
use Rattle.measures.specs.Faults.{container_fault}
use Rattle.layer_cursor.specs.declared.LayerCursor.{LayerCursor}
use Rattle.layer_cursor.specs.declared.LayerSpot.{LayerSpot}
use Rattle.layer_cursor.specs.Spot.{spot_of, after_spot}
use Rattle.layer_state.specs.Stand.{new_of}
use Rattle.layer_lent.specs.declared.Asked.{Asked}

-- one of three lengths is out of range. RULES: Ranges.
abbrev pub lengths_fault : List Float → Bool
lengths_fault size = not (is_length (x size)) || (not (is_length (y size)) || not (is_length (z size)))

-- What is refused by 3. The cursor is a state: the floats in one are not tested. RULES: Refusals.
abbrev pub asked_fault : Asked → Bool
asked_fault a = container_fault a.container || lengths_fault a.size

-- the layer placer's spot, with the far limits of a new fill of this container
abbrev pub spot_for : LayerCursor → Asked → Option LayerSpot
spot_for c a = spot_of a.container (new_of a.container).max c a.size

-- the refusal, or the spot
unfoldable pub asked_spot : LayerCursor → Asked → Result (Option LayerSpot) Refusal
asked_spot c a = answer_of (when (asked_fault a) 3) (spot_for c a)

-- the cursor afterwards: a box that is placed moves it on, and any other answer leaves it
abbrev pub after_asked : LayerCursor → Result (Option LayerSpot) Refusal → LayerCursor
after_asked c (Ok p) = after_spot c p
after_asked c (Err r) = c

-- an accepted box gets the placer's spot
pub accepted_spot : (c : LayerCursor) (a : Asked) → asked_fault a ≡ false → asked_spot c a ≡ Ok (spot_for c a)
unfolding asked_spot answer_with
accepted_spot c a e = rw e

-- ---- a box that gets no, and a refused one, leave the cursor as it was
pub no_stays : (c : LayerCursor) (a : Asked) → ((p : LayerSpot) → asked_spot c a ≡ Ok (Some p) → ⊥) → after_asked c (asked_spot c a) ≡ c
no_stays c a = go (asked_spot c a)
  where
    go : (r : Result (Option LayerSpot) Refusal) → ((p : LayerSpot) → r ≡ Ok (Some p) → ⊥) → after_asked c r ≡ c
    go (Ok (Some p)) none = absurd (none p refl)
    go (Ok None) none = refl
    go (Err r) none = refl
