-- Whether a box passes at a point, as far as floats alone decide it. RULES: First placer: point test
use Rattle.std.specs.Prelude.{Bool, not, ◌&&◌, ◌||◌, List, [], ◌∷◌, Float}
use Rattle.std.specs.Float.Ieee.{lt, le}
use Rattle.floats.specs.Ops.{x, y, z, ◌⊕◌, ◌⊖◌}
use Rattle.domain.specs.Ranges.{slack}
use Rattle.measures.specs.declared.Container.{Container}
use Rattle.point_fit.specs.declared.Room.{Room}

-- ---- the box lies in the container: each near side not before the margin less the slack, each far side not past the length less the margin, plus the slack

abbrev pub room_of : Container → Room
room_of c =
    record {
      least = c.margin ⊖ slack;
      most = (x c.size ⊖ c.margin ⊕ slack) ∷ (y c.size ⊖ c.margin ⊕ slack) ∷ (z c.size ⊖ c.margin ⊕ slack) ∷ [];
    }

-- `at` is the near corner and `far` the far one
unfoldable pub in_room : Room → List Float → List Float → Bool
in_room r at far =
    not (lt (x at) r.least || (lt (y at) r.least || lt (z at) r.least))
    && not (lt (x r.most) (x far) || (lt (y r.most) (y far) || lt (z r.most) (z far)))

-- ---- it is separated from a placed box on some axis: its near side not before the other's far side plus the distance asked less the slack, or its far
-- side not past the other's near side less the distance asked plus the slack

abbrev pub far_wall : List Float → List Float → Float → List Float
far_wall near size asked =
    (x near ⊕ x size ⊕ asked ⊖ slack) ∷ (y near ⊕ y size ⊕ asked ⊖ slack) ∷ (z near ⊕ z size ⊕ asked ⊖ slack) ∷ []

abbrev pub near_wall : List Float → Float → List Float
near_wall near asked = (x near ⊖ asked ⊕ slack) ∷ (y near ⊖ asked ⊕ slack) ∷ (z near ⊖ asked ⊕ slack) ∷ []

-- past the far wall a, or before the near wall b
unfoldable pub apart : List Float → List Float → List Float → List Float → Bool
apart a b at far =
    le (x a) (x at)
    || (le (x far) (x b) || (le (y a) (y at) || (le (y far) (y b) || (le (z a) (z at) || le (z far) (z b)))))
