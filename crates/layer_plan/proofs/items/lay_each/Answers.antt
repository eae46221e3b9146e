-- `items::lay_each` meets its contract: a turn of the loop is a turn of the definition.
use Prim.Native.Nat.{◌+◌}
use mathlib.Core.Path.{◌≡◌, refl, sym, ◌∙◌, ap}
use lib.ListN.{length}
use native.Mathlib.Omega.{arith}
use native.Mathlib.Numerals.{add-one}
use Rattle.file_read.specs.Reading.{sheet_of}
use Rattle.file_read.specs.Records.{container_is}
use Rattle.layer_state.specs.declared.stand.Stand.{Stand}
use Rattle.layer_fill.specs.Fill.{empty, took}
use Rattle.layer_plan.specs.Run.{run_from}
use Rattle.layer_plan.specs.Offers.{item_offer}
use Rattle.layer_plan.specs.Shown.{shown_length, shown_none, holds_more, run_long}
use Rattle.layer_plan.specs.Laid.{shows}
use Rattle.layer_plan.proofs.items.lay_each.Goals as goal
use Rattle.layer_plan.proofs.items.lay_each.Goals.{At-loop-j}

pub loop-j-init : goal.loop-j-init
unfolding run_from
loop-j-init c = (omega arith, record { stand_is = rw c.new-stand.ensures; count_is = refl; lines_are = shown_none _ _ refl })

-- there are as many lines as before
kept : (l : At-loop-j) → length l.loop-j.lines ≡ length l.args.lines.now
kept l = rw l.loop-j.invariant.1.lines_are (shown_length _ _)

pub try_item-t-requires : goal.try_item-t-requires
try_item-t-requires c = (c.requires.0, omega arith)

pub put_line-held-requires : goal.put_line-held-requires
put_line-held-requires c = let k = kept (goal.at.put_line-held-requires c).At-loop-j in omega (arith, k, c.requires.1)

pub shape_of-lines : goal.shape_of-lines
shape_of-lines c = kept (goal.at.shape_of-lines c).At-loop-j

pub loop-j-preserved : goal.loop-j-preserved
unfolding run_from
loop-j-preserved c =
    let l = c.loop-j in
    let kinds = (sheet_of c.args.f.now).kinds in
    let offer = item_offer c.args.records.now c.args.items.now in
    let e = c.new-stand.result.container in
    let g = run_from (empty e) kinds offer l.j in
    let tried = c.try_item-t.result in
    let tries = c.try_item-t.ensures in
    let h = l.invariant.1 in
    let few = c.requires.0.few in
    let turn : took g tried.step tried.id tried.instance ≡ run_from (empty e) kinds offer (l.j + 1) =
    rw (add-one l.j) (tries.took_is g (sym h.stand_is)) in
    let grown = c.put_line-held.ensures.few in (
      omega arith,
      rw (← turn, c.after-stand.ensures) (holds_more g _ tried.step _ _ _ _ _ _ _ (run_long e kinds offer l.j) (omega arith) h c.put_line-held.ensures),
    )

pub returns : goal.returns
returns c =
    let b = ap (λ (v : Stand). v.container) c.new-stand.ensures ∙ c.container_in-container.ensures ∙ container_is _ c.requires.0.can_read in
    let e : c.loop-j.j ≡ c.args.n = omega arith in
    rw c.utilization.ensures (shows _ _ _ _ _ _ (rw b at (rw e at c.loop-j.invariant.1)))
