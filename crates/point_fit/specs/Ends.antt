-- Where a new point may lie. RULES: First placer: new points
use Rattle.std.specs.Prelude.{Bool, not, ◌&&◌, ◌||◌, List, [], ◌∷◌, Float}
use Rattle.std.specs.Float.Ieee.{lt, le}
use Rattle.floats.specs.Ops.{x, y, z, ◌⊕◌, ◌⊖◌}
use Rattle.domain.specs.Ranges.{slack}
use Rattle.measures.specs.declared.Container.{Container}

-- the container's lengths less the margin and the slack
abbrev pub ends_of : Container → List Float
ends_of c = (x c.size ⊖ c.margin ⊖ slack) ∷ (y c.size ⊖ c.margin ⊖ slack) ∷ (z c.size ⊖ c.margin ⊖ slack) ∷ []

-- where each axis goes that is moved: past the box by the distance asked
abbrev pub past_of : List Float → List Float → Float → List Float
past_of at size asked = (x at ⊕ x size ⊕ asked) ∷ (y at ⊕ y size ⊕ asked) ∷ (z at ⊕ z size ⊕ asked) ∷ []

-- a kept point is below the ends on every axis
unfoldable pub below_ends : List Float → List Float → Bool
below_ends ends at = not (le (x ends) (x at) || (le (y ends) (y at) || le (z ends) (z at)))

-- the point is strictly inside the box, by the slack on all six faces
unfoldable pub buries : List Float → List Float → List Float → Bool
buries near size at =
    (lt (x near ⊕ slack) (x at) && lt (x at) (x near ⊕ x size ⊖ slack))
    && ((lt (y near ⊕ slack) (y at) && lt (y at) (y near ⊕ y size ⊖ slack))
    && (lt (z near ⊕ slack) (z at) && lt (z at) (z near ⊕ z size ⊖ slack)))
