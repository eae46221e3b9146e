-- The planned sheet.
use Rattle.std.specs.Prelude.{cond, List, ℕ, eqb, get_or}
use Rattle.lists.specs.Table.{table}
use Rattle.domain.specs.Bounds.{most_kinds, most_unplaced}
use Rattle.sheet.specs.declared.Sheet.{Sheet}
use Rattle.sheet.specs.Sheets.{empty_sheet}
use Rattle.plan_sheet.specs.Plans.{Plan, plan_refusal}

-- a sheet, or the refusal in its place
pub record PlanSheet : Type 0 where
  pub refused : ℕ
  pub sheet : Sheet

-- a plan's ids in a store of as many as a sheet may list
abbrev pub widened : List ℕ → List ℕ
widened ids = table 0 most_unplaced (λ i. get_or ids i 0) most_kinds

-- the order, its own lines and unplaced ids replaced by the plan's
unfoldable pub planned_sheet : Sheet → Plan → Sheet
planned_sheet order plan =
    record {
      many = record { kinds = order.many.kinds; lines = plan.placed; unplaced = plan.unplaced };
      container = order.container;
      kinds = order.kinds;
      lines = plan.lines;
      unplaced = widened plan.ids;
    }

-- the planned sheet, or the plan's refusal and a sheet with nothing in it, which no call accepts
unfoldable pub sheet_from : Sheet → Plan → PlanSheet
sheet_from order plan =
    let refused = plan_refusal plan.refused plan.placed plan.unplaced in
    cond (eqb refused 0) (record { refused = 0; sheet = planned_sheet order plan }) (record { refused = refused; sheet = empty_sheet })
