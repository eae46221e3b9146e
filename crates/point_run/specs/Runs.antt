-- The plan of a run. RULES: First placer: run · Plans
use Rattle.std.specs.Prelude.{◌≡◌, false, cond, List, ℕ, eqb, get_or, min}
use Rattle.floats.specs.Ops.{◌⊘◌}
use Rattle.domain.specs.Bounds.{most_lines}
use Rattle.measures.specs.declared.Kind.{Kind}
use Rattle.measures.specs.declared.Container.{Container}
use Rattle.measures.specs.Volume.{volume}
use Rattle.measures.specs.Faults.{container_fault}
use Rattle.sheet.specs.declared.Sheet.{Sheet}
use Rattle.sheet.specs.declared.Line.{Line}
use Rattle.sheet.specs.Sheets.{boxes_in, sheet_refusal}
use Rattle.sheet.specs.Accepted.{Accepted}
use Rattle.point_state.specs.declared.Label.{Label}
use Rattle.point_state.specs.declared.Spot.{Spot}
use Rattle.point_state.specs.Stores.{spot_in}
use Rattle.point_state.specs.Boxes.{no_label, total_volume}
use Rattle.point_state.specs.Counts.{over}
use Rattle.point_state.specs.Fresh.{start_of, fresh_state}
use Rattle.point_stow.specs.Stow.{Stowed, stowed_by}
use Rattle.point_stow.specs.Keeps.{stow_within}
use Rattle.plan_sheet.specs.Plans.{Plan, blank_line, refused_plan, planned_of}
use Rattle.lists.specs.Table.{table}
use Rattle.point_run.specs.Order.{falling_boxes}

-- the line of placed box i
unfoldable pub line_by : List Label → List Spot → List ℕ → ℕ → Line
line_by labels boxes orientations i =
    record {
      id = (get_or labels i no_label).id;
      instance = (get_or labels i no_label).instance;
      orientation = get_or orientations i 0;
      bin = 0;
      at = (spot_in boxes i).position;
    }

abbrev pub line_of : Stowed → ℕ → Line
line_of f = line_by f.next.labels f.next.boxes f.orientations

-- the plan for which n boxes were considered: a line for each placed box, in the order placed
unfoldable pub plan_from : Container → List Kind → ℕ → Stowed → ℕ → Plan
plan_from c kinds m f n =
    planned_of kinds m (table blank_line most_lines (line_of f) f.next.held) f.next.held n (total_volume f.next ⊘ volume c.size)

-- the first n of all the boxes by falling volume, placed one after the other in a fresh state
unfoldable pub run_of : Container → List Kind → ℕ → ℕ → Stowed
run_of c kinds all n = stowed_by (fresh_state c) kinds (falling_boxes kinds all) n

-- the boxes by falling volume, as many as are to be considered, and no more than there are; the answer is that of the rule over just those boxes
unfoldable pub ep_packing_of : Sheet → ℕ → Plan
ep_packing_of order consider =
    let kinds = order.kinds in
    let all = boxes_in kinds order.many.kinds in
    let n = min consider all in
    cond (eqb (sheet_refusal order) 0) (plan_from order.container kinds order.many.kinds (run_of order.container kinds all n) n)
    (refused_plan (sheet_refusal order))

-- ---- laws

-- an accepted container is one to begin with
pub run_start : (order : Sheet) (all n : ℕ) → Accepted order
    → stowed_by (start_of order.container false) order.kinds (falling_boxes order.kinds all) n ≡ run_of order.container order.kinds all n
unfolding run_of
run_start order all n a = rw a.container_right

-- the counts are within the bounds
pub run_within : (c : Container) (kinds : List Kind) (all n : ℕ) → over (run_of c kinds all n).next ≡ false
unfolding run_of
run_within c kinds all n = stow_within c (container_fault c) kinds (falling_boxes kinds all) n
