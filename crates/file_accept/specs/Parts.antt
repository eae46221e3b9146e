-- The refusal of a sheet in the parts that a test of the bytes works out one after another. RULES: Refusals
use Rattle.std.specs.Prelude.{◌≡◌, refl, Bool, true, false, not, ◌||◌, List, ℕ, zero, suc, ltb, get_or, Float}
use Rattle.std.proofs.Common.{ap, ◌∙◌}
use Rattle.floats.specs.Ops.{x, y, z}
use Rattle.domain.specs.Bounds.{most_boxes}
use Rattle.domain.specs.Ranges.{is_position}
use Rattle.lists.specs.Below.{any_below, sum_below}
use Rattle.domain.specs.Refusals.{when, or_else, first_below}
use Rattle.measures.specs.Faults.{container_fault}
use Rattle.sheet.specs.declared.Line.{Line}
use Rattle.sheet.specs.declared.Sheet.{Sheet}
use Rattle.sheet.specs.Sheets.{no_line, over_count, kind_fault_in, quantity_of, line_fault, line_fault_in, sheet_refusal}

-- a position that is outside its range on an axis
abbrev pub misplaced : List Float → Bool
misplaced at = not (is_position (x at)) || (not (is_position (y at)) || not (is_position (z at)))

unfoldable pub misplaced_in : List Line → ℕ → Bool
misplaced_in lines i = misplaced (get_or lines i no_line).at

-- what the kinds are refused for: kind by kind, then their total
unfoldable pub kinds_refusal : Sheet → ℕ
kinds_refusal s =
    or_else (first_below (kind_fault_in s.kinds) s.many.kinds) (when (ltb most_boxes (sum_below (quantity_of s.kinds) s.many.kinds)) 2)

when_or : (a b : Bool) (n : ℕ) → when (a || b) (suc n) ≡ or_else (when a (suc n)) (when b (suc n))
unfolding or_else
when_or true b n = refl
when_or false b n = refl

-- the lines are refused by one number, so one test over all of them tells it
pub lines_by_one : (lines : List Line) (n : ℕ) → when (any_below (misplaced_in lines) n) 3 ≡ first_below (line_fault_in lines) n
unfolding any_below first_below misplaced_in line_fault_in line_fault
lines_by_one lines zero = refl
lines_by_one lines (suc n) = when_or (any_below (misplaced_in lines) n) (misplaced_in lines n) 2 ∙ rw (lines_by_one lines n)

or_else_assoc : (a b d : ℕ) → or_else (or_else a b) d ≡ or_else a (or_else b d)
unfolding or_else
or_else_assoc zero b d = refl
or_else_assoc (suc a) b d = refl

-- a sheet with counts within their bounds is refused by its container, its kinds, then its lines
pub refusal_in_parts : (s : Sheet) → over_count s.many ≡ false
    → or_else (when (container_fault s.container) 3) (or_else (kinds_refusal s) (first_below (line_fault_in s.lines) s.many.lines)) ≡ sheet_refusal s
unfolding sheet_refusal kinds_refusal or_else
refusal_in_parts s h =
    rw h
    (ap (λ (r : ℕ). or_else (when (container_fault s.container) 3) r)
    (or_else_assoc (first_below (kind_fault_in s.kinds) s.many.kinds) (when (ltb most_boxes (sum_below (quantity_of s.kinds) s.many.kinds)) 2)
    (first_below (line_fault_in s.lines) s.many.lines)))
