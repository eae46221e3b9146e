-- The worked example, by computation, and its neighbours: an unknown kind, a length with a fraction, one that divides with a rest, and the bound.
use Rattle.std.specs.Prelude.{◌≡◌, ℕ, ◌-◌, List, [], ◌∷◌, ◌++◌, replicate, refl, Float, Ok, Err}
use Rattle.std.specs.Float.{binary64}
use Rattle.std.specs.Float.Ieee.{of_bits, to_bits, of_int, lt, le, eq, neg, to_unsigned}
use Rattle.floats.specs.Ops.{none}
use Rattle.floats.specs.Whole.{whole}
use Rattle.domain.specs.Bounds.{most_kinds, most_lines, most_unplaced}
use Rattle.lists.specs.Below.{any_below, sum_below}
use Rattle.domain.specs.Refusals.{or_else, first_below}
use Rattle.measures.specs.Faults.{kind_fault, container_fault}
use Rattle.sheet.specs.declared.Line.{Line}
use Rattle.sheet.specs.declared.Sheet.{Sheet}
use Rattle.sheet.specs.Sheets.{no_kind, no_line, same_id, kind_fault_in, quantity_of, line_fault, line_fault_in, sheet_refusal}
use Rattle.domain.specs.declared.Refusal.TheVariants.{Uneven}
use Rattle.domain.specs.Refusal.{answer_with}
use Rattle.fill_thousand.specs.Sides.{whole_or_none, side_of}
use Rattle.fill_thousand.specs.Fill.{uneven, uneven_kind, fill_refusal, solid_of, solid_named, solid_if, line_volume, per_thousand, fill_of}

-- a line of instance 0 at this x
abbrev placed : ℕ → Float → Line
placed id v = record { id = id; instance = 0; orientation = 0; bin = 0; at = v ∷ none ∷ none ∷ [] }

-- spacing 1, and a kind 7 of two cubes of 4 that may not be turned, in a container of this width and 10 × 10, with these lines
abbrev loaded : Float → List Line → ℕ → Sheet
loaded width ls n =
    record {
      many = record { kinds = 1; lines = n; unplaced = 0 };
      container = record { size = width ∷ whole 10 ∷ whole 10 ∷ []; margin = none; spacing = whole 1; limit = none };
      kinds = record { id = 7; quantity = 2; size = whole 4 ∷ whole 4 ∷ whole 4 ∷ []; mass = none; rule = 2; massed = 0; filler = 0 }
          ∷ replicate (most_kinds - 1) no_kind;
      lines = ls ++ replicate (most_lines - n) no_line;
      unplaced = replicate most_unplaced 0;
    }

abbrev four_and_a_half : Float
four_and_a_half = of_bits binary64 0x4012000000000000

abbrev both : List Line
both = placed 7 none ∷ placed 7 four_and_a_half ∷ []

-- two such cubes in a cube of 10 fill 128 of a thousand. Below it: one line of the two unknown; then widths of 4.5, 100, 10,000 and 10,001
pub worked :
    (fill_of (loaded (whole 10) both 2) ≡ Ok 128)
    × (fill_of (loaded (whole 10) (placed 8 none ∷ placed 7 four_and_a_half ∷ []) 2) ≡ Ok 64)
    × (fill_of (loaded four_and_a_half both 2) ≡ Err Uneven)
    × (fill_of (loaded (whole 100) both 2) ≡ Ok 12)
    × (fill_of (loaded (whole 10000) both 2) ≡ Ok 0)
    × (fill_of (loaded (whole 10001) both 2) ≡ Err Uneven)
unfolding fill_of answer_with fill_refusal sheet_refusal or_else container_fault first_below kind_fault_in kind_fault any_below same_id sum_below quantity_of
    line_fault_in line_fault uneven uneven_kind side_of whole_or_none per_thousand solid_of solid_named solid_if line_volume of_bits to_bits of_int lt le eq
    neg to_unsigned
worked = (refl, refl, refl, refl, refl, refl)
