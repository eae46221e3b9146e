-- What the plan of an accepted order tells: it is not refused, the number considered is the smaller of that asked for and the total, and no more
-- boxes are placed than were considered.
use Rattle.std.specs.Prelude.{◌≡◌, refl, List, ℕ, zero, suc, ◌+◌, ◌≤◌, eqb, length, get_or, Float, min}
use Rattle.std.proofs.Common.{le_refl, arith}
use Rattle.std.proofs.Math.Nat.{min-le_right}
use Rattle.domain.specs.Bounds.{most_kinds, most_boxes, most_lines}
use Rattle.measures.specs.declared.Kind.{Kind}
use Rattle.measures.specs.declared.Container.{Container}
use Rattle.measures.specs.Orders.{share_of, lengths_in}
use Rattle.sheet.specs.declared.Line.{Line}
use Rattle.sheet.specs.declared.Sheet.{Sheet}
use Rattle.sheet.specs.Sheets.{no_kind, boxes_in, sheet_refusal}
use Rattle.sheet.specs.Accepted.{accepted}
use Rattle.plan_unplaced.specs.Left.{none_over}
use Rattle.plan_boxes.specs.declared.Instance.{Instance}
use Rattle.plan_boxes.specs.Listing.{no_instance}
use Rattle.point_place.specs.declared.Tried.{Tried}
use Rattle.point_state.specs.declared.ExtremePointSet.{ExtremePointSet}
use Rattle.lists.specs.Bools.{cond_cases}
use Rattle.point_scan.specs.Choose.{best_of}
use Rattle.point_grow.specs.Grow.{after_box}
use Rattle.point_state.specs.Fresh.{start_of, fresh_state}
use Rattle.point_place.specs.Place.{stood, refusal_of, placed_cases, tried_of}
use Rattle.point_state.specs.Boxes.{total_mass}
use Rattle.point_stow.specs.Stow.{Stowed, Attempt, attempt_of, turn_of, stowed_by}
use Rattle.point_step.specs.Pick.{too_heavy}
use Rattle.plan_sheet.specs.Plans.{Plan, planned_of}
use Rattle.point_run.specs.Order.{falling_boxes}
use Rattle.point_run.specs.Runs.{plan_from, run_of, ep_packing_of}
use Rattle.point_run.specs.Kinds.{boxes_few}

-- ---- each box considered adds at most one to those placed

tried_adds : (s : ExtremePointSet) (kind : Kind) (instance o : ℕ) → (tried_of s kind instance o).next.held ≤ s.held + 1
unfolding tried_of after_box
tried_adds s kind instance o =
    cond_cases (λ (t : Tried). t.next.held ≤ s.held + 1) (eqb (refusal_of s.live s.held kind) 0)
    (λ _. placed_cases (λ (t : Tried). t.next.held ≤ s.held + 1) s _ _ (best_of s (lengths_in kind o)) (λ _ _. le_refl (s.held + 1)) (λ _. omega arith))
    (λ _. omega arith)

attempt_adds : (s : ExtremePointSet) (kind : Kind) (instance o : ℕ) → (attempt_of s kind instance o).tried.next.held ≤ s.held + 1
unfolding attempt_of
attempt_adds s kind instance zero = omega arith
attempt_adds s kind instance (suc o) =
    cond_cases (λ (a : Attempt). a.tried.next.held ≤ s.held + 1) (stood (attempt_of s kind instance o).tried.answer)
    (λ _. attempt_adds s kind instance o)
    (λ _. tried_adds s kind instance o)

turn_adds : (kind : Kind) (instance : ℕ) (f : Stowed) → (turn_of kind instance f).next.held ≤ f.next.held + 1
unfolding turn_of
turn_adds kind instance f =
    let a = attempt_of f.next kind instance (length (share_of kind.rule)) in
    cond_cases (λ (g : Stowed). g.next.held ≤ f.next.held + 1) (too_heavy f.next.container.limit (total_mass f.next) kind)
    (λ _. omega arith)
    (λ _.
    cond_cases (λ (g : Stowed). g.next.held ≤ f.next.held + 1) (stood a.tried.answer)
    (λ _. attempt_adds f.next kind instance (length (share_of kind.rule)))
    (λ _. omega arith))

stow_adds : (s : ExtremePointSet) (kinds : List Kind) (items : List Instance) (n : ℕ) → (stowed_by s kinds items n).next.held ≤ s.held + n
unfolding stowed_by
stow_adds s kinds items zero = omega arith
stow_adds s kinds items (suc n) =
    let item = get_or items n no_instance in
    let h = stow_adds s kinds items n in
    let k = turn_adds (get_or kinds item.kind no_kind) item.instance (stowed_by s kinds items n) in
    omega arith

run_no_more : (c : Container) (kinds : List Kind) (all n : ℕ) → (run_of c kinds all n).next.held ≤ n
unfolding run_of start_of
run_no_more c kinds all n = let h = stow_adds (fresh_state c) kinds (falling_boxes kinds all) n in omega arith

-- ---- a plan of lines that are few enough is not refused

pub record Told (p : Plan) (considered placed : ℕ) : Type 0 where
  pub not_refused : p.refused ≡ 0
  pub considered_is : p.considered ≡ considered
  pub placed_is : p.placed ≡ placed

planned_told : (kinds : List Kind) (m : ℕ) (lines : List Line) (n considered : ℕ) (u : Float) → m ≤ most_kinds → n ≤ most_lines
    → Told (planned_of kinds m lines n considered u) considered n
unfolding planned_of
planned_told kinds m lines n considered u h k =
    rw (none_over m n h k) (record { not_refused = refl; considered_is = refl; placed_is = refl })

-- ---- how many were considered, skipped ones included. RULES: First placer: run

abbrev pub considers : Sheet → ℕ → ℕ
considers order consider = min consider (boxes_in order.kinds order.many.kinds)

abbrev pub run_by : Sheet → ℕ → Stowed
run_by order consider = run_of order.container order.kinds (boxes_in order.kinds order.many.kinds) (considers order consider)

considers_few : (order : Sheet) (consider : ℕ) → sheet_refusal order ≡ 0 → considers order consider ≤ most_boxes
considers_few order consider z =
    let l = min-le_right consider (boxes_in order.kinds order.many.kinds) in
    let f = boxes_few order (accepted order z) in
    omega arith

pub placed_few : (order : Sheet) (consider : ℕ) → sheet_refusal order ≡ 0 → (run_by order consider).next.held ≤ considers order consider
placed_few order consider z =
    run_no_more order.container order.kinds (boxes_in order.kinds order.many.kinds) (considers order consider)

pub plan_told : (order : Sheet) (consider : ℕ) → sheet_refusal order ≡ 0
    → Told (ep_packing_of order consider) (considers order consider) (run_by order consider).next.held
unfolding ep_packing_of plan_from
plan_told order consider z =
    let h = placed_few order consider z in
    let k = considers_few order consider z in
    rw z (planned_told order.kinds order.many.kinds _ (run_by order consider).next.held (considers order consider) _
    (accepted order z).few_of.kinds (omega arith))
