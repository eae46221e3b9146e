-- `point_run::list_boxes` meets its contract: each turn stores one box more, and goes on to the next.
use Prim.Native.Nat.{◌<◌}
use mathlib.Core.Path.{◌≡◌, refl, ◌∙◌, ap}
use native.Mathlib.Omega.{arith}
use Rattle.lists.specs.Table.{filled}
use Rattle.measures.specs.declared.Kind.{Kind}
use Rattle.measures.specs.Volume.{volume}
use Rattle.sheet.specs.Sheets.{kind_at}
use Rattle.file_read.specs.Form.{counts_of}
use Rattle.file_read.specs.Reading.{sheet_of}
use Rattle.file_read.specs.Records.{bounds, kind_is}
use Rattle.plan_boxes.specs.declared.Instance.{Instance}
use Rattle.plan_boxes.specs.Turns.{turn_of}
use Rattle.plan_boxes.specs.Files.{next_turn_lem}
use Rattle.point_run.specs.Order.{volume_of}
use Rattle.point_run.specs.Boxes.{listed_more}
use Rattle.point_run.proofs.list_boxes.Goals as goal
use Rattle.point_run.proofs.list_boxes.Goals.{After-kind_in-kind, In-loop-t}

pub loop-t-init : goal.loop-t-init
unfolding turn_of filled
loop-t-init c = (refl, record { items_are = refl; volumes_are = refl })

-- the kind of the turn's box is one of the file's, and what is read there is the sheet's
within : (c : In-loop-t) → c.loop-t.u.kind < (counts_of c.args.f.now).kinds
within c =
    let e = ap (λ (u : Instance). u.kind) c.loop-t.invariant.0 in
    let h = c.requires.0.kind_within c.loop-t.t (omega arith) in
    omega (arith, e, h)

kind_read : (c : After-kind_in-kind) → c.loop-t.u.kind < (counts_of c.args.f.now).kinds
    → c.kind_in-kind.result ≡ kind_at (sheet_of c.args.f.now) c.loop-t.u.kind
kind_read c w = c.kind_in-kind.ensures ∙ kind_is _ _ c.requires.0.can_read w

-- its volume is the box's
volume_read : (c : After-kind_in-kind) → c.loop-t.u.kind < (counts_of c.args.f.now).kinds
    → volume c.kind_in-kind.result.size ≡ volume_of (sheet_of c.args.f.now).kinds c.loop-t.t
unfolding volume_of
volume_read c w =
    ap (λ (k : Kind). volume k.size) (kind_read c w)
    ∙ ap (λ (u : Instance). volume (kind_at (sheet_of c.args.f.now) u.kind).size) c.loop-t.invariant.0

pub loop-t-preserved : goal.loop-t-preserved
loop-t-preserved c =
    let g = goal.at.loop-t-preserved c in
    let l = c.loop-t in
    let w = within g.In-loop-t in
    let b = bounds _ c.requires.0.can_read in (
      c.next_box-u.ensures ∙ next_turn_lem _ _ _ _ l.invariant.0 (kind_read g.After-kind_in-kind w) (omega arith),
      listed_more _ _ _ _ _ _ l.invariant.1 _ _ l.invariant.0 (c.measure.ensures ∙ volume_read g.After-kind_in-kind w),
    )
