-- `point_totals::volume_below` meets its contract: after i turns the sum is that over the first i boxes.
use Rattle.std.proofs.Common.{◌≡◌, ◌<◌, refl, arith, add-one, get_or-take, length-take-le}
use Rattle.point_state.specs.Boxes.{volume_below}
use Rattle.point_state.specs.Stores.{no_spot}
use Rattle.point_totals.proofs.volume_below.Goals as goal

pub loop-spot-init : goal.loop-spot-init
unfolding volume_below
loop-spot-init c = refl

pub loop-spot-preserved : goal.loop-spot-preserved
unfolding volume_below
loop-spot-preserved c =
    let a = c.args in
    let i = c.loop-spot.spot-index in
    let long = length-take-le a.n a.boxes.now c.requires in
    let below : i < a.n = omega arith in
    rw (c.measure-sum.ensures, c.loop-spot.invariant, get_or-take a.n a.boxes.now i no_spot below, add-one)

pub returns : goal.returns
returns c =
    let a = c.args in
    let long = length-take-le a.n a.boxes.now c.requires in
    let e : c.loop-spot.spot-index ≡ a.n = omega arith in
    rw e at c.loop-spot.invariant
