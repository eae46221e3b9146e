-- What `check_packing` answers, and what its lent cells hold afterwards. RULES: Refusals, Lent memory
use Rattle.std.specs.Prelude.{◌≡◌, ℕ, ◌/◌, cond, List, ◌++◌, eqb, ltb, length, drop, Result}
use Rattle.domain.specs.declared.Refusal.{Refusal}
use Rattle.domain.specs.Refusals.{when, or_else}
use Rattle.domain.specs.Refusal.{answer_with}
use Rattle.sheet.specs.declared.Sheet.{Sheet}
use Rattle.sheet.specs.Sheets.{sheet_refusal}
use Rattle.file_read.specs.Reading.{sheet_of, refusal_of}
use Rattle.check_packing.specs.Findings.{findings}

-- 6 where fewer slots of five cells are lent than there are findings; `o` is what is lent
unfoldable pub check_refusal : Sheet → List ℕ → ℕ
check_refusal s o = or_else (sheet_refusal s) (when (ltb (length o) (length (findings s))) 6)

-- how many findings there are, also where they have no room; 0 of a sheet that is refused
unfoldable pub count_of : Sheet → ℕ
count_of s = cond (eqb (sheet_refusal s) 0) (length (findings s) / 5) 0

unfoldable pub checked_of : Sheet → List ℕ → Result ℕ Refusal
checked_of s o = answer_with (check_refusal s o) (count_of s) (count_of s)

-- the findings, and behind them what the cells held; after a refusal no cell differs
unfoldable pub cells_of : Sheet → List ℕ → List ℕ
cells_of s o = cond (eqb (check_refusal s o) 0) (findings s ++ drop (length (findings s)) o) o

-- ---- of a load file: its own refusal, or the answer for the sheet that it says

unfoldable pub file_refusal : List ℕ → List ℕ → ℕ
file_refusal f o = cond (eqb (refusal_of f) 0) (check_refusal (sheet_of f) o) (refusal_of f)

unfoldable pub file_count : List ℕ → ℕ
file_count f = cond (eqb (refusal_of f) 0) (count_of (sheet_of f)) 0

unfoldable pub file_checked : List ℕ → List ℕ → Result ℕ Refusal
file_checked f o = answer_with (file_refusal f o) (file_count f) (file_count f)

unfoldable pub file_cells : List ℕ → List ℕ → List ℕ
file_cells f o = cond (eqb (refusal_of f) 0) (cells_of (sheet_of f) o) o

-- the answer r of a call on the bytes f, and its lent cells o and o' before and after
pub record CheckedFile (f o : List ℕ) (r : Result ℕ Refusal) (o' : List ℕ) : Type 0 where
  pub told : r ≡ file_checked f o
  pub cells : o' ≡ file_cells f o
