-- `point_run::lay_points` meets its contract: the file's refusal, that of too few lines, or the run over the boxes, in stores of either size.
use mathlib.Core.Path.{◌≡◌, ◌∙◌, ap}
use native.Mathlib.Omega.{arith}
use Rattle.std.proofs.lemmas.Result.{err_from_is_err_and}
use Rattle.std.specs.Prelude.{min}
use Rattle.std.proofs.Math.Nat.{min-le_right}
use Rattle.domain.specs.Refusal.{room_enough}
use Rattle.sheet.specs.Sheets.{boxes_in}
use Rattle.file_read.specs.Reading.{sheet_of}
use Rattle.file_read.specs.Records.{Readable, container_is}
use Rattle.file_accept.specs.Accept.{Taken, taken}
use Rattle.plan_boxes.specs.Files.{boxes_from_lem}
use Rattle.plan_sheet.specs.LaidLaws.{lays_unread}
use Rattle.point_run.specs.Boxes.{Asked, asked_few}
use Rattle.point_run.specs.Runs.{ep_packing_of}
use Rattle.point_run.specs.LayPlan.{taken_sheet, lays_taken, lays_none}
use Rattle.point_run.proofs.lay_points.Goals as goal
use Rattle.point_run.proofs.lay_points.Goals.{After-min-n, After-container_in-c}

pub returns-in_err-a : goal.returns-in_err-a
returns-in_err-a c =
    let p = err_from_is_err_and c.from_residual.result c.from_residual.ensures.1 in
    rw (p.1, p.2) (lays_unread ep_packing_of _ _ _ _ _ c.in_err-a.ensures)

-- ---- past the first test the file is accepted, its boxes are counted, and as many are considered as the call says
known : (c : After-min-n) → Taken c.args.order.now c.in_ok-a.a
known c = taken _ _ c.in_ok-a.ensures

all_is : (c : After-min-n) → c.boxes_of-all.result ≡ (let o = sheet_of c.args.order.now in boxes_in o.kinds o.many.kinds)
all_is c = let t = known c in c.boxes_of-all.ensures ∙ boxes_from_lem _ _ t.can_read t.kinds_are

asked_for : (c : After-min-n) → c.min-n.result ≡ min c.args.consider (let o = sheet_of c.args.order.now in boxes_in o.kinds o.many.kinds)
asked_for c = c.min-n.ensures ∙ ap (min c.args.consider) (all_is c)

asked : (c : After-min-n) → Asked c.args.order.now c.boxes_of-all.result c.min-n.result
asked c =
    let t = known c in
    record {
      can_read = t.can_read;
      right = taken_sheet _ c.args.consider t.sound;
      all_is = all_is c;
      few = rw (c.min-n.ensures) (min-le_right _ _);
    }

case_is : (c : After-container_in-c) → Readable c.args.order.now → c.container_in-c.result ≡ (sheet_of c.args.order.now).container
case_is c r = c.container_in-c.ensures ∙ container_is _ r

pub returns-in_err-refuse : goal.returns-in_err-refuse
returns-in_err-refuse c =
    let g = (goal.at.returns-in_err-refuse c).After-min-n in
    let p = err_from_is_err_and c.from_residual-in_err-refuse.result c.from_residual-in_err-refuse.ensures.1 in
    rw (p.1, p.2) (lays_none _ _ (known g).sound _ _ (asked_for g) tt _ c.in_err-refuse.ensures)

-- ---- stores of both sizes have room
pub lay_in-stand-requires : goal.lay_in-stand-requires
lay_in-stand-requires c =
    let q = asked (goal.at.lay_in-stand-requires c).After-min-n in
    let all = asked_few q in
    let n = q.few in (
      q,
      all,
      omega arith,
      record { boxes_few = omega arith; boxes_room = omega (arith, all, n); points_few = omega arith; points_room = omega (arith, all, n) },
      room_enough _ _ c.in_ok-refuse.ensures,
    )

pub lay_in-stand-requires-2 : goal.lay_in-stand-requires-2
lay_in-stand-requires-2 c =
    let q = asked (goal.at.lay_in-stand-requires-2 c).After-min-n in
    let few = c.if-all-gt-FEW_BOXES.false in
    let n = q.few in (
      q,
      few,
      omega arith,
      record { boxes_few = omega arith; boxes_room = omega (arith, few, n); points_few = omega arith; points_room = omega (arith, few, n) },
      room_enough _ _ c.in_ok-refuse.ensures,
    )

pub returns-then-all-gt-FEW_BOXES : goal.returns-then-all-gt-FEW_BOXES
returns-then-all-gt-FEW_BOXES c =
    let g = goal.at.returns-then-all-gt-FEW_BOXES c in
    let t = known g.After-min-n in
    let e = case_is g.After-container_in-c t.can_read in
    rw c.told_of.ensures (lays_taken _ _ t.sound _ _ (asked_for g.After-min-n) _ _ _ tt tt c.in_ok-refuse.ensures e c.lay_in-stand.ensures)

pub returns : goal.returns
returns c =
    let g = goal.at.returns c in
    let t = known g.After-min-n in
    let e = case_is g.After-container_in-c t.can_read in
    rw c.told_of-2.ensures (lays_taken _ _ t.sound _ _ (asked_for g.After-min-n) _ _ _ tt tt c.in_ok-refuse.ensures e c.lay_in-stand-2.ensures)
