-- Whether two placed boxes overlap, and the refusal of a box that is out of range. RULES: First placer: state · Ranges
use Rattle.std.specs.Prelude.{Bool, not, ◌&&◌, ◌||◌, List, Float, Result}
use Rattle.std.specs.Float.Ieee.{le}
use Rattle.floats.specs.Ops.{x, y, z, ◌⊖◌}
use Rattle.domain.specs.declared.Refusal.{Refusal}
use Rattle.domain.specs.Refusals.{when}
use Rattle.domain.specs.Refusal.{answer_of}
use Rattle.domain.specs.Ranges.{slack, is_length, is_position}
use Rattle.point_state.specs.declared.PlacedBox.{PlacedBox}
use Rattle.point_state.specs.Stores.{sum3}

-- `max_corner`: position and lengths added axis by axis
abbrev pub max_corner : PlacedBox → List Float
max_corner b = sum3 b.position b.dimensions

-- on no axis does one begin where the other ends, less the slack
unfoldable pub overlapping : PlacedBox → PlacedBox → Bool
overlapping a b =
    not ((le (x (max_corner b) ⊖ slack) (x a.position) || le (x (max_corner a) ⊖ slack) (x b.position))
    || ((le (y (max_corner b) ⊖ slack) (y a.position) || le (y (max_corner a) ⊖ slack) (y b.position))
    || (le (z (max_corner b) ⊖ slack) (z a.position) || le (z (max_corner a) ⊖ slack) (z b.position))))

-- a length or a position out of range
unfoldable pub box_fault : PlacedBox → Bool
box_fault b =
    not ((is_length (x b.dimensions) && (is_length (y b.dimensions) && is_length (z b.dimensions)))
    && (is_position (x b.position) && (is_position (y b.position) && is_position (z b.position))))

-- `overlaps`: 3 for a box out of range, else whether they overlap
abbrev pub overlap_of : PlacedBox → PlacedBox → Result Bool Refusal
overlap_of a b = answer_of (when (box_fault a || box_fault b) 3) (overlapping a b)
