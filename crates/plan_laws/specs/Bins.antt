-- Every line of a plan stands in case 0, as there is one case. RULES: Plans
use Rattle.std.specs.Prelude.{◌≡◌, refl, List, [], ◌∷◌, ℕ, zero, suc, ◌<◌, get_or, set, replicate, Option, Some, None}
use Rattle.domain.specs.Bounds.{most_boxes, most_lines}
use Rattle.lists.specs.Table.{table_at}
use Rattle.measures.specs.declared.Container.{Container}
use Rattle.measures.specs.declared.Kind.{Kind}
use Rattle.sheet.specs.declared.Line.{Line}
use Rattle.sheet.specs.declared.Sheet.{Sheet}
use Rattle.sheet.specs.Sheets.{no_kind, no_line, blank_line, sheet_refusal}
use Rattle.layer_state.specs.declared.stand.Step.{Step}
use Rattle.layer_fill.specs.declared.LayerFill.{LayerFill}
use Rattle.layer_fill.specs.Fill.{no_lines, empty, line_of, took}
use Rattle.layer_plan.specs.Run.{step_by, offered, run_from}
use Rattle.layer_plan.specs.Offers.{Offer, best_offer}
use Rattle.point_laws.specs.Told.{run_by}
use Rattle.layer_plan.specs.Fills.{layer_fill_of}
use Rattle.point_run.specs.Runs.{line_by, ep_packing_of}
use Rattle.point_run.specs.Runs as Runs
use Rattle.plan_laws.specs.Accepted.{points_lines, layers_lines, held_few}

-- each line of a list is in case 0, and past its end
abbrev Binless : List Line → Type 0
Binless l = (i : ℕ) → (get_or l i no_line).bin ≡ 0

set_binless : (l : List Line) (n : ℕ) (v : Line) → Binless l → v.bin ≡ 0 → Binless (set l n v)
set_binless [] n v h e i = h i
set_binless (a ∷ l) zero v h e zero = e
set_binless (a ∷ l) zero v h e (suc i) = h (suc i)
set_binless (a ∷ l) (suc n) v h e zero = h zero
set_binless (a ∷ l) (suc n) v h e (suc i) = set_binless l n v (λ j. h (suc j)) e i

blank_binless : (n : ℕ) → Binless (replicate n blank_line)
blank_binless zero i = refl
blank_binless (suc n) zero = refl
blank_binless (suc n) (suc i) = blank_binless n i

took_binless : (f : LayerFill) (s : Option Step) (id instance : ℕ) → Binless f.lines → Binless (took f s id instance).lines
unfolding took
took_binless f None id instance h = h
took_binless f (Some s) id instance h = set_binless f.lines f.count (line_of s id instance) h refl

run_binless : (b : Container) (kinds : List Kind) (offer : ℕ → Offer) (n : ℕ) → Binless (run_from (empty b) kinds offer n).lines
unfolding run_from offered no_lines
run_binless b kinds offer zero = blank_binless most_boxes
run_binless b kinds offer (suc n) =
    let f = run_from (empty b) kinds offer n in
    let k = get_or kinds (offer n).kind no_kind in
    took_binless f (step_by f.stand k (offer n).way) k.id (offer n).instance (run_binless b kinds offer n)

pub layers_bins : (order : Sheet) (consider : ℕ) → sheet_refusal order ≡ 0 → (i : ℕ) → (get_or (layer_fill_of order consider).lines i no_line).bin ≡ 0
layers_bins order consider z i =
    rw (layers_lines order consider z) (run_binless order.container order.kinds (best_offer order.kinds) _ i)

pub points_bins : (order : Sheet) (consider : ℕ) → sheet_refusal order ≡ 0 → (i : ℕ) → i < (ep_packing_of order consider).placed
    → (get_or (ep_packing_of order consider).lines i no_line).bin ≡ 0
unfolding line_by
points_bins order consider z i l =
    let h = points_lines order consider z in
    let f = run_by order consider in
    rw (h.lines_are, table_at blank_line most_lines (Runs.line_of f) f.next.held i no_line (held_few order consider z) (rw h.placed_are at l))
