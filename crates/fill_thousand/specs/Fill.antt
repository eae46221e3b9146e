-- The fill per thousand of a sheet, in whole numbers. RULES: Fill per thousand
use Rattle.std.specs.Prelude.{ℕ, ◌*◌, ◌/◌, Bool, ◌||◌, List, get_or, ◌==◌, slice_index_or, Float, Result}
use Rattle.floats.specs.Ops.{x, y, z}
use Rattle.lists.specs.Below.{any_below, sum_below}
use Rattle.domain.specs.declared.Refusal.{Refusal}
use Rattle.domain.specs.Refusals.{when, or_else}
use Rattle.domain.specs.Refusal.{answer_of}
use Rattle.measures.specs.declared.Kind.{Kind}
use Rattle.sheet.specs.declared.Line.{Line}
use Rattle.sheet.specs.declared.Sheet.{Sheet}
use Rattle.sheet.specs.Sheets.{no_kind, no_line, sheet_refusal}
use Rattle.fill_thousand.specs.Sides.{most_side, side_of}

-- ---- 8: a length of the container or of a kind is no whole number from 1 to 10,000

unfoldable pub uneven : List Float → Bool
uneven size = side_of (x size) == 0 || (side_of (y size) == 0 || side_of (z size) == 0)

unfoldable pub uneven_kind : List Kind → ℕ → Bool
uneven_kind kinds k = uneven (get_or kinds k no_kind).size

-- behind all that the sheet is refused for. RULES: Refusals
unfoldable pub fill_refusal : Sheet → ℕ
fill_refusal s = or_else (sheet_refusal s) (when (uneven s.container.size || any_below (uneven_kind s.kinds) s.many.kinds) 8)

-- ---- volumes

-- the largest that there is
abbrev pub most_solid : ℕ
most_solid = most_side * most_side * most_side

-- width by depth by height
unfoldable pub solid_of : List Float → ℕ
solid_of size = side_of (x size) * side_of (y size) * side_of (z size)

-- the volume of a kind where it has this id, else 0
unfoldable pub solid_named : Kind → ℕ → ℕ
solid_named k id = when (k.id == id) (solid_of k.size)

unfoldable pub solid_if : List Kind → ℕ → ℕ → ℕ
solid_if kinds id k = solid_named (slice_index_or kinds k no_kind) id

-- of line i, the volume of the kind that has its id. Known.antt shows that in an accepted sheet this is that one kind's volume, and 0 where no
-- kind has the id: a line of an unknown kind counts for nothing.
unfoldable pub line_volume : List Kind → ℕ → List Line → ℕ → ℕ
line_volume kinds m lines i = sum_below (solid_if kinds (get_or lines i no_line).id) m

-- ---- the volume of the lines, a thousand times, by that of the container, rounded down
unfoldable pub per_thousand : Sheet → ℕ
per_thousand s = sum_below (line_volume s.kinds s.many.kinds s.lines) s.many.lines * 1000 / solid_of s.container.size

unfoldable pub fill_of : Sheet → Result ℕ Refusal
fill_of s = answer_of (fill_refusal s) (per_thousand s)
