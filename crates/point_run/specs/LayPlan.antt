-- The run on a file's bytes is the plan of the sheet that they mean, in lent lines. RULES: Plans
use Rattle.std.specs.Prelude.{◌≡◌, false, List, ℕ, ◌≤◌, ltb, length, Ok, Err, min}
use Rattle.std.proofs.Common.{sym, ◌∙◌}
use Rattle.std.proofs.Math.Path.{ap}
use borrow.Author.Tests.{eq-eqb}
use Rattle.floats.specs.Ops.{◌⊘◌}
use Rattle.lists.specs.Table.{filled, filled_same, table_at}
use Rattle.domain.specs.Bounds.{most_kinds, most_lines}
use Rattle.domain.specs.declared.Refusal.{Refusal}
use Rattle.domain.specs.Refusals.{when}
use Rattle.domain.specs.Refusal.{answer_with}
use Rattle.measures.specs.declared.Container.{Container}
use Rattle.measures.specs.declared.Kind.{Kind}
use Rattle.measures.specs.Volume.{volume}
use Rattle.sheet.specs.declared.Line.{Line}
use Rattle.sheet.specs.declared.Sheet.{Sheet}
use Rattle.sheet.specs.Sheets.{no_line, blank_line, boxes_in, sheet_refusal}
use Rattle.sheet.specs.Accepted.{Accepted, accepted}
use Rattle.plan_unplaced.specs.Left.{over_bound, none_over}
use Rattle.plan_sheet.specs.declared.Told.{Told}
use Rattle.plan_sheet.specs.Plans.{Plan, planned_of}
use Rattle.plan_sheet.specs.Laid.{plan_in, told_of, laid_in, Lays}
use Rattle.plan_sheet.specs.Room.{fitting}
use Rattle.plan_sheet.specs.LaidLaws.{lays_short, lays_roomy}
use Rattle.file_read.specs.Reading.{sheet_of, refusal_of}
use Rattle.file_read.specs.Refusal.{sheet_sound}
use Rattle.point_state.specs.Boxes.{volume_below}
use Rattle.point_state.specs.Counts.{within_counts}
use Rattle.point_stow.specs.Stow.{Stowed}
use Rattle.point_run.specs.declared.Stand.{Stand}
use Rattle.point_run.specs.Boxes.{boxes_by}
use Rattle.point_run.specs.Runs.{line_of, plan_from, run_of, ep_packing_of, run_within, run_start}
use Rattle.point_run.specs.Lay.{stowed, EachIs}

-- ---- the plan of lines that are few enough

module _ (c : Container) (kinds : List Kind) (m : ℕ) (g : Stowed) (n : ℕ) (few : m ≤ most_kinds) (room : g.next.held ≤ most_lines) where
  abbrev plan : Plan
  plan = plan_from c kinds m g n

  none_past : over_bound m g.next.held ≡ false
  none_past = none_over m g.next.held few room

  plan_fair : plan.refused ≡ 0
  unfolding plan_from planned_of
  plan_fair = rw none_past

  plan_told : told_of plan ≡ record { considered = n; placed = g.next.held; utilization = volume_below g.next.boxes g.next.held ⊘ volume c.size }
  unfolding plan_from planned_of
  plan_told = rw none_past

  plan_laid : (old : List Line) → laid_in old plan ≡ filled old (line_of g) g.next.held
  unfolding plan_from planned_of laid_in
  plan_laid old = rw none_past (filled_same old _ _ g.next.held (λ i l. table_at blank_line most_lines (line_of g) g.next.held i no_line room l))

-- what is told of boxes that stand, of n considered
abbrev pub stand_told : Stand → ℕ → Container → Told
stand_told r n c = record { considered = n; placed = r.held; utilization = r.volume ⊘ volume c.size }

-- ---- an accepted file

module _ (f : List ℕ) (consider : ℕ) (e : refusal_of f ≡ 0) where
  abbrev order : Sheet
  order = sheet_of f

  sheet_fair : sheet_refusal order ≡ 0
  sheet_fair = sheet_sound f e

  pub taken_sheet : Accepted order
  taken_sheet = accepted order sheet_fair

  abbrev all : ℕ
  all = boxes_in order.kinds order.many.kinds

  abbrev run : ℕ → Stowed
  run n = stowed order.container order.kinds (boxes_by order) n

  run_is : (n : ℕ) → run n ≡ run_of order.container order.kinds all n
  run_is n = run_start order all n taken_sheet

  -- what stands is the plan
  plan_is : (n : ℕ) → n ≡ min consider all
      → plan_from order.container order.kinds order.many.kinds (run n) n ≡ plan_in ep_packing_of f consider
  unfolding plan_in ep_packing_of
  plan_is n m = rw (eq-eqb (refusal_of f) 0 e, eq-eqb (sheet_refusal order) 0 sheet_fair, run_is n, m)

  held_few : (n : ℕ) → (run n).next.held ≤ most_lines
  held_few n = rw (run_is n) (within_counts _ _ (run_within order.container order.kinds all n)).room

  -- it considers the boxes asked for
  pub considers : (n : ℕ) → n ≡ min consider all → (plan_in ep_packing_of f consider).considered ≡ n
  considers n m =
      ap (λ (p : Plan). p.considered) (sym (plan_is n m))
      ∙ ap (λ (t : Told). t.considered)
      (plan_told order.container order.kinds order.many.kinds (run n) n taken_sheet.few_of.kinds (held_few n))

  -- **boxes laid as they are asked for are the plan, in lines that it fits**
  module _ (old : List Line) (n : ℕ) (asked_for : n ≡ min consider all) where
    pub lays_taken : {A : Type 0} (c : Container) (now : List Line) (r : Stand) (u w : A) → Ok w ≡ answer_with (when (ltb (length old) n) 6) n u
        → c ≡ order.container → EachIs c order.kinds (boxes_by order) n old r now
        → Lays (fitting old (plan_in ep_packing_of f consider)) (Ok (stand_told r n c)) old now
    lays_taken c now r u w room g h =
        let k = rw g at h in
        let p = plan_is n asked_for in
        let few = taken_sheet.few_of.kinds in
        lays_roomy old (plan_in ep_packing_of f consider) n (sym (considers n asked_for)) u w (stand_told r n c) now room
        (rw (← p) (plan_fair order.container order.kinds order.many.kinds (run n) n few (held_few n)))
        (rw (← p, g, k.held_is, k.volume_is) (sym (plan_told order.container order.kinds order.many.kinds (run n) n few (held_few n))))
        (k.filled_is ∙ rw (← p) (sym (plan_laid order.container order.kinds order.many.kinds (run n) n few (held_few n) old)))

    -- in fewer lines none is laid
    pub lays_none : {A : Type 0} (u : A) (r : Refusal) → Err r ≡ answer_with (when (ltb (length old) n) 6) n u
        → Lays (fitting old (plan_in ep_packing_of f consider)) (Err r) old old
    lays_none u r e = lays_short old (plan_in ep_packing_of f consider) n (sym (considers n asked_for)) u r e
