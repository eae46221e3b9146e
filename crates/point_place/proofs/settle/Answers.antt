-- `point_place::settle` meets its contract: the points after it, and the box.
use native.Mathlib.Omega.{arith}
use Rattle.point_grow.specs.Grow.{after_box, restock_in}
use Rattle.point_place.proofs.settle.Goals as goal

pub returns : goal.returns
unfolding after_box
returns c =
    let s = c.args.set in
    let k = c.args.k in
    let e = restock_in s.container s.boxes s.held s.live s.points k c.args.size c.requires.0 (omega arith) (omega arith) in
    rw (c.put_box.ensures, c.restock-live.ensures.live_is, c.restock-live.ensures.points_are, e)
