-- RULES: Plans. What the plan of a fill holds, and how a call that lays it into lent memory ends.
use Rattle.std.specs.Prelude.{◌≡◌, List, ℕ, ◌≤◌, ltb, length, Ok, Err, min}
use Rattle.std.proofs.Common.{sym, ap, ◌∙◌, arith, eq-eqb}
use Rattle.domain.specs.Bounds.{most_kinds, most_lines}
use Rattle.domain.specs.declared.Refusal.{Refusal}
use Rattle.domain.specs.Refusals.{when}
use Rattle.domain.specs.Refusal.{answer_with, no_number}
use Rattle.measures.specs.declared.Kind.{Kind}
use Rattle.sheet.specs.declared.Line.{Line}
use Rattle.sheet.specs.declared.Sheet.{Sheet}
use Rattle.sheet.specs.Sheets.{sheet_refusal}
use Rattle.sheet.specs.Accepted.{accepted}
use Rattle.file_read.specs.Reading.{sheet_of, refusal_of}
use Rattle.file_read.specs.Refusal.{sheet_sound}
use Rattle.plan_unplaced.specs.Left.{none_over}
use Rattle.plan_sheet.specs.declared.Told.{Told}
use Rattle.plan_sheet.specs.Plans.{Plan, planned_of}
use Rattle.plan_sheet.specs.Laid.{plan_in, told_of, laid_in}
use Rattle.layer_state.specs.declared.stand.Stand.{Stand}
use Rattle.layer_state.specs.Stand.{fill_of}
use Rattle.layer_fill.specs.declared.LayerFill.{LayerFill}
use Rattle.layer_fill.specs.Fill.{empty}
use Rattle.layer_instances.specs.Instances.{total}
use Rattle.layer_plan.specs.Run.{run_by, run_few}
use Rattle.layer_plan.specs.Offers.{best_offer}
use Rattle.layer_plan.specs.Fills.{plan_from, layer_fill_of, turns_few}
use Rattle.plan_sheet.specs.Laid.{Lays}
use Rattle.plan_sheet.specs.Room.{fitting}
use Rattle.plan_sheet.specs.LaidLaws.{lays_short, lays_roomy}
use Rattle.layer_plan.specs.Shown.{shown_in, Holds}

-- ---- the plan of a fill

-- what is told of a fill that n boxes were considered for
abbrev pub told_by : LayerFill → ℕ → Told
told_by f n = record { considered = n; placed = f.count; utilization = fill_of f.stand }

pub record Made (p : Plan) (f : LayerFill) (n : ℕ) : Type 0 where
  pub fair : p.refused ≡ 0
  pub told_is : told_of p ≡ told_by f n
  pub lines_are : p.lines ≡ f.lines
  pub placed_are : p.placed ≡ f.count

pub plan_made : (kinds : List Kind) (m : ℕ) (f : LayerFill) (n : ℕ) → m ≤ most_kinds → f.count ≤ most_lines → Made (plan_from kinds m f n) f n
unfolding plan_from planned_of
plan_made kinds m f n a b =
    let e = none_over m f.count a b in
    record { fair = rw e; told_is = rw e; lines_are = rw e; placed_are = rw e }

pub made_considered : {p : Plan} {f : LayerFill} {n : ℕ} → Made p f n → p.considered ≡ n
made_considered m = ap (λ (t : Told). t.considered) m.told_is

-- ---- how a call ends

-- the plan's lines are those of its fill
laid_is : (old : List Line) (p : Plan) (f : LayerFill) (n : ℕ) → Made p f n → shown_in old f ≡ laid_in old p
unfolding laid_in shown_in
laid_is old p f n m = rw (m.lines_are, m.placed_are)

-- a fill told of, its lines in lent memory
pub record Shows (f : LayerFill) (n : ℕ) (r : Told) (old new : List Line) : Type 0 where
  pub told_is : r ≡ told_by f n
  pub lines_are : new ≡ shown_in old f

pub shows : (f : LayerFill) (n : ℕ) (stand : Stand) (count : ℕ) (old new : List Line) → Holds f stand count old new
    → Shows f n (record { considered = n; placed = count; utilization = fill_of stand }) old new
shows f n stand count old new h = record { told_is = rw (h.stand_is, h.count_is); lines_are = h.lines_are }

-- in lines that are as many as the boxes considered, or fewer
module _ (p : Plan) (f : LayerFill) (n : ℕ) (old : List Line) (m : Made p f n) where
  pub lays_made : (r : Told) (new : List Line) → Shows f n r old new → Lays p (Ok r) old new
  lays_made r new h =
      record {
        told_is = rw (h.told_is ∙ sym m.told_is) (no_number p.refused p.considered (told_of p) m.fair);
        lines_are = h.lines_are ∙ laid_is old p f n m;
      }

  pub lays_room : {A : Type 0} (u w : A) (r : Told) (new : List Line) → Ok w ≡ answer_with (when (ltb (length old) n) 6) n u → Shows f n r old new
      → Lays (fitting old p) (Ok r) old new
  lays_room u w r new e h =
      lays_roomy old p n (sym (made_considered m)) u w r new e m.fair (h.told_is ∙ sym m.told_is) (h.lines_are ∙ laid_is old p f n m)

  pub lays_none : {A : Type 0} (u : A) (r : Refusal) → Err r ≡ answer_with (when (ltb (length old) n) 6) n u → Lays (fitting old p) (Err r) old old
  lays_none u r e = lays_short old p n (sym (made_considered m)) u r e

-- ---- the order in a load file

-- the fill over n boxes
abbrev pub fill_by : Sheet → ℕ → LayerFill
fill_by s n = run_by s.container s.kinds (best_offer s.kinds) n

pub filled_in : (f : List ℕ) (consider : ℕ) → refusal_of f ≡ 0
    → Made (plan_in layer_fill_of f consider) (fill_by (sheet_of f) (min consider (total (sheet_of f)))) (min consider (total (sheet_of f)))
unfolding plan_in layer_fill_of
filled_in f consider z =
    let s = sheet_of f in
    let n = min consider (total s) in
    let a = accepted s (sheet_sound f z) in
    let few = turns_few s a consider in
    let c = run_few (empty s.container) s.kinds (best_offer s.kinds) n in
    rw (eq-eqb (refusal_of f) 0 z, eq-eqb (sheet_refusal s) 0 (sheet_sound f z))
    (plan_made s.kinds s.many.kinds (fill_by s n) n a.few_of.kinds (omega arith))
