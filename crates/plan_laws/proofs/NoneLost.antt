-- A planned sheet has no finding 10 or 11, by either placer.
use Rattle.std.specs.Prelude.{◌≡◌, ℕ}
use Rattle.sheet.specs.declared.Sheet.{Sheet}
use Rattle.sheet.specs.Sheets.{sheet_refusal}
use Rattle.plan_sheet.specs.Planned.{planned_sheet}
use Rattle.point_run.specs.Runs.{ep_packing_of}
use Rattle.layer_plan.specs.Fills.{layer_fill_of}
use Rattle.plan_laws.specs.Accepted.{points_lists, layers_lists}
use Rattle.plan_laws.specs.NoneLost.{NoneLost, sheet_none_lost}
use Rattle.plan_laws.proofs.Accepted.{points_accepted, layers_accepted}

pub points_none_lost : (order : Sheet) (consider : ℕ) → sheet_refusal order ≡ 0 → NoneLost (planned_sheet order (ep_packing_of order consider))
points_none_lost order consider z =
    sheet_none_lost order (ep_packing_of order consider) z (points_accepted order consider z).sheet_accepted (points_lists order consider z)

pub layers_none_lost : (order : Sheet) (consider : ℕ) → sheet_refusal order ≡ 0 → NoneLost (planned_sheet order (layer_fill_of order consider))
layers_none_lost order consider z =
    sheet_none_lost order (layer_fill_of order consider) z (layers_accepted order consider z).sheet_accepted (layers_lists order consider z)
