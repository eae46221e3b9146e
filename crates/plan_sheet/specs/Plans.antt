-- A plan: what it holds, and that of lines that were placed.
use Rattle.std.specs.Prelude.{cond, ◌||◌, List, ℕ, ltb, replicate, Float}
use Rattle.floats.specs.Ops.{none}
use Rattle.domain.specs.Bounds.{most_kinds, most_lines}
use Rattle.domain.specs.Refusals.{when, or_else}
use Rattle.measures.specs.declared.Kind.{Kind}
use Rattle.sheet.specs.declared.Line.{Line}
pub use Rattle.sheet.specs.Sheets.{blank_line}
pub use Rattle.plan_unplaced.specs.Left.{over_bound, left_by}

-- RULES: Plans. The first `placed` lines and the first `unplaced` ids. A refused plan holds nothing but its refusal, by 6 the boxes considered too.
pub record Plan : Type 0 where
  pub refused : ℕ
  pub considered : ℕ
  pub utilization : Float
  pub placed : ℕ
  pub unplaced : ℕ
  pub lines : List Line
  pub ids : List ℕ

-- nothing but the refusal
unfoldable pub refused_plan : ℕ → Plan
refused_plan r =
    record {
      refused = r;
      considered = 0;
      utilization = none;
      placed = 0;
      unplaced = 0;
      lines = replicate most_lines blank_line;
      ids = replicate most_kinds 0;
    }

-- the refusal for want of room: there is none for so many boxes, which were considered
unfoldable pub crowded_plan : ℕ → Plan
crowded_plan n =
    record {
      refused = 6;
      considered = n;
      utilization = none;
      placed = 0;
      unplaced = 0;
      lines = replicate most_lines blank_line;
      ids = replicate most_kinds 0;
    }

-- the plan of m kinds whose first n lines are placed, with the unplaced list that they leave
unfoldable pub planned_of : List Kind → ℕ → List Line → ℕ → ℕ → Float → Plan
planned_of kinds m lines n considered utilization =
    cond (over_bound m n) (refused_plan 2)
    (record {
      refused = 0;
      considered = considered;
      utilization = utilization;
      placed = n;
      unplaced = (left_by kinds m lines n).count;
      lines = lines;
      ids = (left_by kinds m lines n).ids;
    })

-- what a call that takes a plan refuses: the plan's own refusal, then 2 for more lines or ids than a plan's stores have
unfoldable pub plan_refusal : ℕ → ℕ → ℕ → ℕ
plan_refusal refused placed unplaced = or_else refused (when (ltb most_lines placed || ltb most_kinds unplaced) 2)
