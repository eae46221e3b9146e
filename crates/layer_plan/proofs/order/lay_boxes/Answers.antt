-- `order::lay_boxes` meets its contract: a turn of the loop is a turn of the definition.
use Prim.Native.Nat.{◌<◌, ◌+◌}
use mathlib.Core.Path.{◌≡◌, refl, ◌∙◌, ap}
use lib.ListN.{length}
use native.Mathlib.Omega.{arith}
use native.Mathlib.Numerals.{add-one}
use Rattle.sheet.specs.Sheets.{kind_at, quantity_of}
use Rattle.file_read.specs.Form.{counts_of}
use Rattle.file_read.specs.Reading.{sheet_of}
use Rattle.file_read.specs.Records.{bounds, container_is, kind_is}
use Rattle.plan_boxes.specs.Turns.{turn_of}
use Rattle.layer_state.specs.declared.stand.Stand.{Stand}
use Rattle.layer_state.specs.Best.{place_best_of}
use Rattle.layer_fill.specs.Fill.{empty, took}
use Rattle.plan_boxes.specs.Files.{next_box_lem}
use Rattle.layer_plan.specs.Run.{run_from, offered}
use Rattle.layer_plan.specs.Offers.{best_offer}
use Rattle.layer_plan.specs.Shown.{shown_length, shown_none, holds_more, run_long}
use Rattle.layer_plan.specs.Laid.{shows}
use Rattle.layer_plan.proofs.order.lay_boxes.Goals as goal
use Rattle.layer_plan.proofs.order.lay_boxes.Goals.{After-kind_in-k, At-loop-t}

pub loop-t-init : goal.loop-t-init
unfolding turn_of run_from
loop-t-init c = (omega arith, refl, record { stand_is = rw c.new-stand.ensures; count_is = refl; lines_are = shown_none _ _ refl })

-- there are as many lines as before
kept : (l : At-loop-t) → length l.loop-t.lines ≡ length l.args.lines.now
kept l = rw l.loop-t.invariant.2.lines_are (shown_length _ _)

-- the kind of the turn's box is one of the file's, and what is read there is the sheet's
within : (c : After-kind_in-k) → c.loop-t.u.kind < (counts_of c.args.f.now).kinds
within c = rw c.loop-t.invariant.1 (c.requires.0.kind_within c.loop-t.t (omega arith))

kind_read : (c : After-kind_in-k) → c.kind_in-k.result ≡ kind_at (sheet_of c.args.f.now) c.loop-t.u.kind
kind_read c = c.kind_in-k.ensures ∙ kind_is _ _ c.requires.0.can_read (within c)

pub put_line-held-requires : goal.put_line-held-requires
put_line-held-requires c = let k = kept (goal.at.put_line-held-requires c).At-loop-t in omega (arith, k, c.requires.1)

pub shape_of-lines : goal.shape_of-lines
shape_of-lines c = kept (goal.at.shape_of-lines c).At-loop-t

pub loop-t-preserved : goal.loop-t-preserved
unfolding run_from offered best_offer turn_of quantity_of
loop-t-preserved c =
    let l = c.loop-t in
    let kinds = (sheet_of c.args.f.now).kinds in
    let e = c.new-stand.result.container in
    let g = run_from (empty e) kinds (best_offer kinds) l.t in
    let step = c.place_best-s.result in
    let h = l.invariant.2 in
    let few = c.requires.0.few in
    let w = within (goal.at.loop-t-preserved c).After-kind_in-k in
    let b = bounds _ c.requires.0.can_read in
    let r = kind_read (goal.at.loop-t-preserved c).After-kind_in-k in
    let made : step ≡ place_best_of g.stand c.kind_in-k.result = rw (← h.stand_is) c.place_best-s.ensures in
    let turn : took g step c.kind_in-k.result.id l.u.instance ≡ run_from (empty e) kinds (best_offer kinds) (l.t + 1) =
    rw (add-one l.t, made) (rw (r, l.invariant.1)) in
    let grown = c.put_line-held.ensures.few in (
      omega arith,
      c.next_box-u.ensures ∙ next_box_lem _ _ (omega arith) ∙ rw (add-one, r, l.invariant.1),
      rw (← turn, c.after-stand.ensures) (holds_more g _ step _ _ _ _ _ _ _ (run_long e kinds (best_offer kinds) l.t) (omega arith) h c.put_line-held.ensures),
    )

pub returns : goal.returns
returns c =
    let b = ap (λ (v : Stand). v.container) c.new-stand.ensures ∙ c.container_in-container.ensures ∙ container_is _ c.requires.0.can_read in
    let e : c.loop-t.t ≡ c.args.n = omega arith in
    rw c.utilization.ensures (shows _ _ _ _ _ _ (rw b at (rw e at c.loop-t.invariant.2)))
