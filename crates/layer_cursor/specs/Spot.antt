-- RULES: Second placer: cursor. Where a box would go next and the cursor after it (packing_utils.rs, `spot`), in the Rust's operation order. There
-- is no slack anywhere.
use Rattle.std.specs.Prelude.{Bool, cond, ◌||◌, List, [], ◌∷◌, Option, Some, None, Float}
use Rattle.std.specs.Float.Ieee.{lt}
use Rattle.floats.specs.Ops as Ops
use Rattle.floats.specs.Ops.{◌⊕◌, none, larger}
use Rattle.measures.specs.declared.Container.{Container}
use Rattle.layer_cursor.specs.declared.LayerCursor.{LayerCursor}
use Rattle.layer_cursor.specs.declared.LayerSpot.{LayerSpot}

-- A box too wide for the open row begins a new one: x at the margin, y on by the row's depth and the spacing (these two added first), no depth yet.
unfoldable pub new_row : Container → List Float → LayerCursor → Float → LayerCursor
new_row b max c width =
    cond (lt (Ops.x max) (c.x ⊕ width))
    (record { x = b.margin; y = c.y ⊕ (c.depth ⊕ b.spacing); z = c.z; depth = none; height = c.height })
    c

-- A box too deep for the open layer then begins a new one: x and y at the margin, z on by the layer's height and the spacing, no depth and no height yet.
unfoldable pub new_layer : Container → List Float → LayerCursor → Float → LayerCursor
new_layer b max c depth =
    cond (lt (Ops.y max) (c.y ⊕ depth))
    (record { x = b.margin; y = b.margin; z = c.z ⊕ (c.height ⊕ b.spacing); depth = none; height = none })
    c

-- a box at the cursor passes the far limit of some axis
abbrev pub over : List Float → LayerCursor → List Float → Bool
over max c size =
    lt (Ops.x max) (c.x ⊕ Ops.x size) || (lt (Ops.y max) (c.y ⊕ Ops.y size) || lt (Ops.z max) (c.z ⊕ Ops.z size))

-- behind a box at the cursor: x on by its width, then by the spacing; the row is at least as deep as the box, the layer at least as high
abbrev pub past : Container → LayerCursor → List Float → LayerCursor
past b c size =
    record {
      x = c.x ⊕ Ops.x size ⊕ b.spacing;
      y = c.y;
      z = c.z;
      depth = larger c.depth (Ops.y size);
      height = larger c.height (Ops.z size);
    }

-- a box at the cursor c
abbrev pub spot_at : Container → LayerCursor → List Float → LayerSpot
spot_at b c size = record { at = c.x ∷ c.y ∷ c.z ∷ []; next = past b c size }

-- the cursor that a box of these lengths asks for
abbrev pub turn_to : Container → List Float → LayerCursor → List Float → LayerCursor
turn_to b max c size = new_layer b max (new_row b max c (Ops.x size)) (Ops.y size)

-- the spot that it gets; none where it is over the far limit of some axis
unfoldable pub spot_of : Container → List Float → LayerCursor → List Float → Option LayerSpot
spot_of b max c size = cond (over max (turn_to b max c size) size) None (Some (spot_at b (turn_to b max c size) size))

-- the cursor after a box was offered: behind its spot, or where it was
abbrev pub after_spot : LayerCursor → Option LayerSpot → LayerCursor
after_spot c None = c
after_spot c (Some p) = p.next
