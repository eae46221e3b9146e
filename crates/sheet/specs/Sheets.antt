-- What a sheet holds, and the refusal that it gets, from 2 on and in the stated order. RULES: Refusals
use Rattle.std.specs.Prelude.{ℕ, Bool, not, ◌&&◌, ◌||◌, cond, List, [], eqb, ltb, leb, get_or, replicate, Float}
use Rattle.std.specs.Float.{nan}
use Rattle.floats.specs.Ops.{none, nowhere, x, y, z}
use Rattle.lists.specs.Table.{table}
use Rattle.domain.specs.Bounds.{most_kinds, most_boxes, most_lines, most_unplaced}
use Rattle.domain.specs.Ranges.{is_position}
use Rattle.lists.specs.Below.{any_below, sum_below, is_at}
use Rattle.domain.specs.Refusals.{when, or_else, first_below}
use Rattle.measures.specs.declared.Kind.{Kind}
use Rattle.measures.specs.Faults.{kind_fault, container_fault}
use Rattle.sheet.specs.declared.Counts.{Counts}
use Rattle.sheet.specs.declared.Line.{Line}
use Rattle.sheet.specs.declared.Sheet.{Sheet}

-- the counts that bound a sheet: kinds, boxes of all kinds together, lines, unplaced ids
pub record Most : Type 0 where
  pub kinds : ℕ
  pub boxes : ℕ
  pub lines : ℕ
  pub unplaced : ℕ

-- those that hold
abbrev pub most_now : Most
most_now = record { kinds = most_kinds; boxes = most_boxes; lines = most_lines; unplaced = most_unplaced }

-- ---- what stands past a list's end, which nothing reads
abbrev pub no_kind : Kind
no_kind = record { id = 0; quantity = 0; size = []; mass = nan; rule = 0; massed = 0; filler = 0 }

abbrev pub no_line : Line
no_line = record { id = 0; instance = 0; orientation = 0; bin = 0; at = [] }

-- a line of a planned sheet: there is one case, and it stands in that
abbrev pub line_for : ℕ → ℕ → ℕ → List Float → Line
line_for id instance turn at = record { id = id; instance = instance; orientation = turn; bin = 0; at = at }

-- ---- cells of a sheet past those that count are blank, and a sheet with nothing in it is blank throughout: it is refused by 3 wherever it is handed in
abbrev pub blank_kind : Kind
blank_kind = record { id = 0; quantity = 0; size = nowhere; mass = none; rule = 0; massed = 0; filler = 0 }

abbrev pub blank_line : Line
blank_line = record { id = 0; instance = 0; orientation = 0; bin = 0; at = nowhere }

unfoldable pub empty_sheet : Sheet
empty_sheet =
    record {
      many = record { kinds = 0; lines = 0; unplaced = 0 };
      container = record { size = nowhere; margin = none; spacing = none; limit = none };
      kinds = replicate most_kinds blank_kind;
      lines = replicate most_lines blank_line;
      unplaced = replicate most_unplaced 0;
    }

-- kind k, line i, unplaced id i
abbrev pub kind_at : Sheet → ℕ → Kind
kind_at s k = get_or s.kinds k no_kind

abbrev pub line_at : Sheet → ℕ → Line
line_at s i = get_or s.lines i no_line

abbrev pub unplaced_at : Sheet → ℕ → ℕ
unplaced_at s i = get_or s.unplaced i 0

-- ---- 2: more kinds, lines or unplaced ids than there can be
abbrev pub over_count_by : Most → Counts → Bool
over_count_by b m = ltb b.kinds m.kinds || (ltb b.lines m.lines || ltb b.unplaced m.unplaced)

abbrev pub over_count : Counts → Bool
over_count m = over_count_by most_now m

-- ---- kind by kind: 4, 3, 5
-- the id is one of the first n, of a list for as many ids as there may be kinds
unfoldable pub among : List ℕ → ℕ → ℕ → Bool
among ids id n = leb n most_kinds && any_below (is_at ids id) n

-- the ids of the first n kinds
abbrev pub ids_below : List Kind → ℕ → List ℕ
ids_below kinds n = table 0 most_kinds (λ k. (get_or kinds k no_kind).id) n

-- kind j has kind k's id
unfoldable pub same_id : List Kind → ℕ → ℕ → Bool
same_id kinds k j = eqb (get_or kinds j no_kind).id (get_or kinds k no_kind).id

-- 5: an id that an earlier kind has
unfoldable pub kind_fault_in : List Kind → ℕ → ℕ
kind_fault_in kinds k = kind_fault (get_or kinds k no_kind) (any_below (same_id kinds k) k)

-- ---- 2: more boxes than there can be
unfoldable pub quantity_of : List Kind → ℕ → ℕ
quantity_of kinds k = (get_or kinds k no_kind).quantity

-- the boxes of m kinds, and 0 for more kinds than there can be
unfoldable pub boxes_in : List Kind → ℕ → ℕ
boxes_in kinds m = cond (ltb most_kinds m) 0 (sum_below (quantity_of kinds) m)

-- ---- line by line: 3 for a position out of its range
unfoldable pub line_fault : Line → ℕ
line_fault l = when (not (is_position (x l.at)) || (not (is_position (y l.at)) || not (is_position (z l.at)))) 3

unfoldable pub line_fault_in : List Line → ℕ → ℕ
unfolding line_fault
line_fault_in lines i = line_fault (get_or lines i no_line)

-- ---- the counts, the container, kind by kind, the total, line by line: the first that gives a number
abbrev pub sheet_refusal_by : Most → Sheet → ℕ
sheet_refusal_by b s =
    or_else (when (over_count_by b s.many) 2)
    (or_else (when (container_fault s.container) 3)
    (or_else (first_below (kind_fault_in s.kinds) s.many.kinds)
    (or_else (when (ltb b.boxes (sum_below (quantity_of s.kinds) s.many.kinds)) 2)
    (first_below (line_fault_in s.lines) s.many.lines))))

-- by the counts that hold
unfoldable pub sheet_refusal : Sheet → ℕ
unfolding or_else
sheet_refusal s = sheet_refusal_by most_now s
