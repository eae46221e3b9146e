-- `point_totals::mass_below` meets its contract: after i turns the sum is that over the first i boxes.
use Rattle.std.proofs.Common.{◌≡◌, ◌<◌, refl, arith, add-one, get_or-take, length-take-le}
use Rattle.point_state.specs.Boxes.{mass_below, no_label}
use Rattle.point_totals.proofs.mass_below.Goals as goal

pub loop-label-init : goal.loop-label-init
unfolding mass_below
loop-label-init c = refl

pub loop-label-preserved : goal.loop-label-preserved
unfolding mass_below
loop-label-preserved c =
    let a = c.args in
    let i = c.loop-label.label-index in
    let long = length-take-le a.n a.labels.now c.requires in
    let below : i < a.n = omega arith in
    rw (c.mass_with-sum.ensures, c.loop-label.invariant, get_or-take a.n a.labels.now i no_label below, add-one)

pub returns : goal.returns
returns c =
    let a = c.args in
    let long = length-take-le a.n a.labels.now c.requires in
    let e : c.loop-label.label-index ≡ a.n = omega arith in
    rw e at c.loop-label.invariant
