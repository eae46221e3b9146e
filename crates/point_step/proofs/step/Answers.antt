-- `point_step::step` meets its contract: no room, too heavy, no point, or the box stands.
use Rattle.std.proofs.Common.{refl, sym, ◌∙◌, arith}
use Rattle.measures.specs.Orders.{share_few}
use Rattle.point_step.specs.Pick.{spare_of, pick_stored}
use Rattle.point_step.specs.Step.{stores, Picked, picked_full, picked_heavy, picked_by, step_none, step_some}
use Rattle.point_step.proofs.step.Goals as goal
use Rattle.point_step.proofs.step.Goals.{After-pick}

pub returns-then-not-has_spare : goal.returns-then-not-has_spare
returns-then-not-has_spare c = step_none _ _ _ _ _ _ _ (picked_full _ _ _ _ _ _ (sym c.has_spare.ensures ∙ c.if-not-has_spare.true))

pub returns-then-too_heavy : goal.returns-then-too_heavy
returns-then-too_heavy c =
    step_none _ _ _ _ _ _ _
    (picked_heavy _ _ _ _ _ _ (sym c.has_spare.ensures ∙ c.if-not-has_spare.false) (sym c.too_heavy.ensures ∙ c.if-too_heavy.true))

pub pick-requires : goal.pick-requires
pick-requires c = rw c.allowed_orientations-turns.ensures (share_few c.args.kind.rule)

-- the stores have room, and the box is not too heavy
picked : (c : After-pick) → let a = c.args in
    Picked a.c a.live a.held a.mass a.kind (stores a.points.now a.boxes.now a.walls.now a.hints.now) c.pick.result c.pick.new.hints
picked c =
    picked_by _ _ _ _ _ _ _ _ _ _ (sym c.has_spare.ensures ∙ c.if-not-has_spare.false) (sym c.too_heavy.ensures ∙ c.if-too_heavy.false) c.room_of-room.ensures
    c.allowed_orientations-turns.ensures c.pick.ensures

pub returns-in_err-p : goal.returns-in_err-p
returns-in_err-p c =
    rw c.from_residual.ensures (step_none _ _ _ _ _ _ _ (rw c.in_err-p.was at (picked (goal.at.returns-in_err-p c).After-pick)))

-- the point picked is in its store
pub offset_bounds-points-k : goal.offset_bounds-points-k
offset_bounds-points-k c =
    let r = spare_of _ _ _ _ _ (sym c.has_spare.ensures ∙ c.if-not-has_spare.false) in
    let l = pick_stored _ _ _ _ _ _ _ _ _ (sym c.pick.ensures.pick_is ∙ c.in_ok-p.was) in
    let b = r.held_in in
    let f = r.counts.few in
    omega (arith, l, b, f)

pub slice_copy_out-at : goal.slice_copy_out-at
slice_copy_out-at c =
    let r = (spare_of _ _ _ _ _ (sym c.has_spare.ensures ∙ c.if-not-has_spare.false)).points_in in
    let l = pick_stored _ _ _ _ _ _ _ _ _ (sym c.pick.ensures.pick_is ∙ c.in_ok-p.was) in
    omega (arith, l, r)

pub returns : goal.returns
returns c =
    step_some _ _ _ _ _ _ _ _ _ _ _ _ _ _ (rw c.in_ok-p.was at (picked (goal.at.returns c).After-pick)) c.dimensions_for_orientation-size.ensures
    refl c.restock-after.ensures c.put_box.ensures c.put_walls.ensures
