-- The order in which points are tried. RULES: First placer: point test
use Rattle.std.specs.Prelude.{Bool, not, ◌&&◌, ◌||◌, List, Float}
use Rattle.std.specs.Float.Ieee.{lt}
use Rattle.floats.specs.Ops.{x, y, z}

-- the lower one first, of equal height the one nearer in depth, then in width; where a comparison has no answer the two count as equal, as in the Rust
unfoldable pub sooner : List Float → List Float → Bool
sooner v w =
    lt (z v) (z w) || (not (lt (z w) (z v)) && (lt (y v) (y w) || (not (lt (y w) (y v)) && lt (x v) (x w))))
