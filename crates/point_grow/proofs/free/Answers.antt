-- `point_grow::free` meets its contract: no box passed has the point in it, and the one that ends the loop has.
use Rattle.std.proofs.Common.{◌≡◌, ◌<◌, refl, sym, ap, arith, get_or-take, length-take-le}
use mathlib.Core.Bool.{not}
use Rattle.point_state.specs.All.{all, all_more, all_false}
use Rattle.point_state.specs.Stores.{no_spot}
use Rattle.point_grow.specs.Grow.{free}
use Rattle.point_grow.proofs.free.Goals as goal

pub loop-spot-init : goal.loop-spot-init
unfolding free all
loop-spot-init c = refl

pub returns-then-buries : goal.returns-then-buries
unfolding free
returns-then-buries c =
    let a = c.args in
    let i = c.loop-spot.spot-index in
    let long = length-take-le a.n a.boxes.now c.requires in
    let below : i < a.n = omega arith in
    let e = rw (c.buries.ensures, get_or-take a.n a.boxes.now i no_spot below) at c.if-buries.true in
    sym (all_false _ _ i below (ap not e))

pub loop-spot-preserved : goal.loop-spot-preserved
unfolding free
loop-spot-preserved c =
    let a = c.args in
    let i = c.loop-spot.spot-index in
    let long = length-take-le a.n a.boxes.now c.requires in
    let below : i < a.n = omega arith in
    let e = rw (c.buries.ensures, get_or-take a.n a.boxes.now i no_spot below) at c.if-buries.false in
    all_more _ _ c.loop-spot.invariant (ap not e)

pub returns : goal.returns
returns c =
    let a = c.args in
    let long = length-take-le a.n a.boxes.now c.requires in
    let e : c.loop-spot.spot-index ≡ a.n = omega arith in
    sym (rw e at c.loop-spot.invariant)
