-- What the measured examples are made of.
use Rattle.std.specs.Prelude.{◌≡◌, Bool, true, false, List, [], ◌∷◌, ◌++◌, ℕ, ◌-◌, length, replicate, Option, Result, Ok, Float}
use Rattle.std.specs.Float.{binary64}
use Rattle.std.specs.Float.Ieee.{round}
use Rattle.floats.specs.Ops.{none}
use Rattle.domain.specs.Bounds.{most_kinds, most_lines, most_unplaced}
use Rattle.measures.specs.declared.Kind.{Kind}
use Rattle.measures.specs.declared.Container.{Container}
use Rattle.sheet.specs.declared.Counts.{Counts}
use Rattle.sheet.specs.declared.Line.{Line}
use Rattle.sheet.specs.declared.Sheet.{Sheet}
use Rattle.sheet.specs.Sheets.{blank_kind, blank_line, sheet_refusal}
use Rattle.check_packing.specs.Check.{checked_of, cells_of}
use Rattle.point_state.specs.declared.ExtremePointSet.{ExtremePointSet}
use Rattle.point_state.specs.Fresh.{fresh_state}
use Rattle.point_place.specs.declared.Tried.{Tried}
use Rattle.point_place.specs.Place.{tried_of}
use Rattle.domain.specs.declared.Refusal.{Refusal}
use Rattle.layer_fill.specs.declared.LayerFill.{LayerFill}
use Rattle.layer_fill.specs.Fill.{empty, placed_best, after_call}
use Rattle.check_pair.specs.declared.Extent.{Extent}

-- the float nearest to a divided by b
abbrev pub decimal : ℕ → ℕ → Float
decimal a b = round binary64 false a b

abbrev pub whole : ℕ → Float
whole n = decimal n 1

abbrev pub at : Float → Float → Float → List Float
at x y z = x ∷ y ∷ z ∷ []

abbrev pub cube : Float → List Float
cube a = at a a a

-- no mass limit, margin 0
abbrev pub case : List Float → Float → Container
case size spacing = record { size = size; margin = none; spacing = spacing; limit = none }

-- a container of 10×10×10, margin and spacing 0 unless said
abbrev pub ten : Container
ten = case (cube (whole 10)) none

-- kind 7 without a mass: its rule, how many, its lengths
abbrev pub kind : ℕ → ℕ → List Float → Kind
kind rule n size = record { id = 7; quantity = n; size = size; mass = none; rule = rule; massed = 0; filler = 0 }

abbrev pub any : ℕ
any = 0

abbrev pub fixed : ℕ
fixed = 2

-- ---- extreme point_place: a fresh state, and a box tried in orientation 0
abbrev pub fresh : Container → ExtremePointSet
fresh c = fresh_state c

abbrev pub try : ExtremePointSet → List Float → Tried
try s size = tried_of s (kind fixed 1 size) 0 0

-- ---- layer_fill: boxes of a kind one after the other, each in its best orientation
abbrev pub first : Container → Kind → Result (Option LayerFill) Refusal
first b k = placed_best (empty b) k 0

abbrev pub after_first : Container → Kind → LayerFill
after_first b k = after_call (empty b) (first b k)

abbrev pub second : Container → Kind → Result (Option LayerFill) Refusal
second b k = placed_best (after_first b k) k 1

abbrev pub after_second : Container → Kind → LayerFill
after_second b k = after_call (after_first b k) (second b k)

abbrev pub third : Container → Kind → Result (Option LayerFill) Refusal
third b k = placed_best (after_second b k) k 2

-- ---- sheets as a call can hand them over, blank past what counts: kind 7 is a fixed 4-cube; line (7, instance) at x, index and bin 0
abbrev pub seven : ℕ → Kind
seven n = kind fixed n (cube (whole 4))

abbrev pub seven_at : ℕ → Float → Line
seven_at n x = record { id = 7; instance = n; orientation = 0; bin = 0; at = at x none none }

abbrev pub sheet_of : Container → List Kind → List Line → List ℕ → Sheet
sheet_of c ks ls us =
    record {
      many = record { kinds = length ks; lines = length ls; unplaced = length us };
      container = c;
      kinds = ks ++ replicate (most_kinds - length ks) blank_kind;
      lines = ls ++ replicate (most_lines - length ls) blank_line;
      unplaced = us ++ replicate (most_unplaced - length us) 0;
    }

-- one line at x; one line of n boxes with a list of unplaced ids
abbrev pub one : Float → Sheet
one x = sheet_of ten (seven 1 ∷ []) (seven_at 0 x ∷ []) []

abbrev pub listing : ℕ → List ℕ → Sheet
listing n us = sheet_of ten (seven n ∷ []) (seven_at 0 none ∷ []) us

-- spacing 1; kind 7, a fixed 4-cube, quantity 2; lines (7, 0) at (0,0,0) and (7, 0) at (4.5,0,0), index and bin 0; nothing unplaced
abbrev pub worked : Sheet
worked = sheet_of (case (cube (whole 10)) (whole 1)) (seven 2 ∷ []) (seven_at 0 none ∷ seven_at 0 (decimal 9 2) ∷ []) []

-- ---- what the checker answers: room for four findings is lent, and each cell holds 9 before
abbrev pub lent : List ℕ
lent = replicate 20 9

-- the sheet is accepted, so many findings are told, and the cells hold these words and behind them what they held
pub record Answered (s : Sheet) (found : ℕ) (cells : List ℕ) : Type 0 where
  pub accepted : sheet_refusal s ≡ 0
  pub told : checked_of s lent ≡ Ok found
  pub written : cells_of s lent ≡ cells

-- ---- check_pair: a box between two corners
abbrev pub box : List Float → List Float → Extent
box near far = record { min = near; max = far }
