-- A plan's lines in lent memory, and what is told of the plan beside them.
use Rattle.std.specs.Prelude.{◌≡◌, cond, List, ℕ, eqb, get_or, Result}
use Rattle.domain.specs.declared.Refusal.{Refusal}
use Rattle.domain.specs.Refusal.{answer_with}
use Rattle.lists.specs.Table.{filled}
use Rattle.sheet.specs.declared.Line.{Line}
use Rattle.sheet.specs.declared.Sheet.{Sheet}
use Rattle.sheet.specs.Sheets.{no_line}
use Rattle.file_read.specs.Reading.{sheet_of, refusal_of}
use Rattle.plan_sheet.specs.declared.Told.{Told}
use Rattle.plan_sheet.specs.Plans.{Plan, refused_plan}

-- RULES: Plans. The plan that a placer makes of the order in a load file: the file's own refusal, or the plan of the order that its bytes mean.
unfoldable pub plan_in : (Sheet → ℕ → Plan) → List ℕ → ℕ → Plan
plan_in run f consider = cond (eqb (refusal_of f) 0) (run (sheet_of f) consider) (refused_plan (refusal_of f))

-- what is told of it
abbrev pub told_of : Plan → Told
told_of p = record { considered = p.considered; placed = p.placed; utilization = p.utilization }

-- line i of a plan
abbrev pub placed_at : Plan → ℕ → Line
placed_at p i = get_or p.lines i no_line

-- RULES: Lent memory. The plan's lines, and behind them the lines that were there before. A refused plan has no line.
unfoldable pub laid_in : List Line → Plan → List Line
laid_in old p = filled old (placed_at p) p.placed

-- what a call that lays a plan ends with: what it tells, or its refusal, by 6 with the number of boxes considered; and the lines
pub record Lays (p : Plan) (r : Result Told Refusal) (old new : List Line) : Type 0 where
  pub told_is : r ≡ answer_with p.refused p.considered (told_of p)
  pub lines_are : new ≡ laid_in old p
