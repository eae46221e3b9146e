-- `point_place::try_place` meets its contract: refused, no room, or the box placed at the chosen point.
use Rattle.std.proofs.Common.{◌≡◌, ◌∙◌, ℕ, ◌<◌, arith, eq-eqb}
use Rattle.std.specs.Prelude.{Some}
use Rattle.std.proofs.Math.Bool.{false}
use Rattle.domain.specs.Refusal.{no_refusal}
use Rattle.measures.specs.declared.Kind.{Kind}
use Rattle.point_state.specs.Counts.{over, over_counts, not_over}
use Rattle.point_scan.specs.Choose.{best_of, scan_found}
use Rattle.point_scan.specs.Walls.{best_in_lem}
use Rattle.point_place.specs.Place.{refusal_of, tried_of, placed_by, Ready, ready, refused_call}
use Rattle.point_place.proofs.try_place.Goals as goal
use Rattle.point_place.proofs.try_place.Goals.{In_default, In-Some}

pub returns-in-Err : goal.returns-in-Err
returns-in-Err c = let a = c.args in refused_call a.set a.kind a.instance a.orientation _ c.in-Err.ensures

-- past the refusal
unrefused : (c : In_default) → refusal_of c.args.set.live c.args.set.held c.args.kind ≡ 0
unrefused c = no_refusal _ 0 tt tt c.in_default.ensures

ready_at : (c : In_default) → Ready c.args.set.live c.args.set.held c.args.kind
ready_at c = ready _ _ _ (unrefused c)

fair_of : (live held : ℕ) (kind : Kind) → Ready live held kind → over_counts live held ≡ false
fair_of live held kind r = not_over live held (record { room = omega arith; few = r.few })

fair : (c : In_default) → over c.args.set ≡ false
fair c = fair_of _ _ _ (ready_at c)

-- no point takes it
pub returns-in_default-best : goal.returns-in_default-best
unfolding tried_of placed_by
returns-in_default-best c =
    let g = (goal.at.returns-in_default-best c).In_default in
    let best = c.best.ensures ∙ best_in_lem c.args.set c.dimensions_for_orientation-size.result (fair g) in
    let none = rw (best, c.dimensions_for_orientation-size.ensures) at c.in_default-best.is in
    rw (eq-eqb _ 0 (unrefused g), none)

-- the chosen point
chosen : (c : In-Some) → over c.args.set ≡ false → best_of c.args.set c.dimensions_for_orientation-size.result ≡ Some c.in-Some.k
chosen c fair =
    let best = c.best.ensures ∙ best_in_lem c.args.set c.dimensions_for_orientation-size.result fair in
    rw best at c.in-Some.is

-- is one of the stored ones
stored : (c : In-Some) → over c.args.set ≡ false → c.in-Some.k < c.args.set.live
unfolding best_of
stored c fair = scan_found _ _ c.args.set.live c.in-Some.k (chosen c fair)

pub settle-q-requires : goal.settle-q-requires
settle-q-requires c =
    let g = goal.at.settle-q-requires c in
    let r = ready_at g.In_default in
    omega (arith, stored g.In-Some (fair g.In_default))

pub offset_bounds-set-k : goal.offset_bounds-set-k
offset_bounds-set-k c =
    let g = goal.at.offset_bounds-set-k c in
    let r = ready_at g.In_default in
    omega (arith, stored g.In-Some (fair g.In_default))

pub bounds-set-k : goal.bounds-set-k
bounds-set-k c =
    let g = goal.at.bounds-set-k c in
    let r = ready_at g.In_default in
    omega (arith, stored g.In-Some (fair g.In_default))

pub returns : goal.returns
unfolding tried_of placed_by
returns c =
    let s = c.args.set in
    let g = goal.at.returns c in
    let f = fair g.In_default in
    let size = c.dimensions_for_orientation-size.ensures in
    let some = rw size at (chosen g.In-Some f) in
    rw (eq-eqb _ 0 (unrefused g.In_default), some)
    (rw (c.settle-q.ensures, c.label_of.ensures, size))
