-- The box of a line, and of several boxes one. RULES: Findings: lines
use Rattle.std.specs.Prelude.{ℕ, List, [], ◌∷◌, get_or}
use Rattle.floats.specs.Ops.{◌⊕◌, x, y, z}
use Rattle.measures.specs.declared.Kind.{Kind}
use Rattle.measures.specs.Orders.{lengths_in}
use Rattle.sheet.specs.declared.Line.{Line}
use Rattle.check_pair.specs.declared.Extent.{Extent}

-- from the line's place on, as long as its kind is in its orientation
abbrev pub box_of : Line → Kind → Extent
box_of l k =
    let size = lengths_in k l.orientation in
    record {
      min = x l.at ∷ y l.at ∷ z l.at ∷ [];
      max = (x l.at ⊕ x size) ∷ (y l.at ⊕ y size) ∷ (z l.at ⊕ z size) ∷ [];
    }

-- box i of several; one without sides where there is none
abbrev pub box_at : List Extent → ℕ → Extent
box_at boxes i = get_or boxes i (record { min = []; max = [] })
