-- `point_grow::restock` meets its contract: all stays, or the last point in the place of the one taken, and the new points.
use Rattle.std.proofs.Common.{◌+◌, length, arith, lt-ltb, le-ltb}
use Rattle.point_grow.specs.Grow.{stock_by, restock_of, restock_in}
use Rattle.point_grow.proofs.restock.Goals as goal

pub returns-then-k-live : goal.returns-then-k-live
unfolding restock_of
returns-then-k-live c = let e = le-ltb _ _ c.if-k-live.true in record { live_is = rw e; points_are = rw e }

pub returns-then-live-points : goal.returns-then-live-points
unfolding restock_of
returns-then-live-points c =
    let a = c.args in
    let e = lt-ltb _ _ c.if-k-live.false in
    let f = le-ltb (a.live + 1) (length a.points.now) (omega arith) in
    record { live_is = rw (e, f); points_are = rw (e, f) }

pub returns-then-live-points-2 : goal.returns-then-live-points-2
unfolding restock_of
returns-then-live-points-2 c =
    let e = lt-ltb _ _ c.if-k-live.false in
    let f = le-ltb _ _ c.if-live-points-2.true in
    record { live_is = rw (e, f); points_are = rw (e, f) }

pub returns-then-held-boxes : goal.returns-then-held-boxes
unfolding restock_of
returns-then-held-boxes c =
    let e = lt-ltb _ _ c.if-k-live.false in
    let f = lt-ltb _ _ c.if-live-points-2.false in
    let g = le-ltb _ _ c.if-held-boxes.true in
    record { live_is = rw (e, f, g); points_are = rw (e, f, g) }

pub returns : goal.returns
unfolding stock_by
returns c =
    let s = c.args in
    let e = restock_in s.c s.boxes.now s.held s.live s.points.now s.k s.size c.if-k-live.false c.if-live-points-2.false c.if-held-boxes.false in
    record {
      live_is = rw e (rw (c.grow.ensures.live_is, c.new_points-new.ensures));
      points_are = rw e (rw (c.grow.ensures.points_are, c.new_points-new.ensures));
    }
