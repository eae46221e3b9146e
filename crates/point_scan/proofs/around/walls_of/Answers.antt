-- `point_scan::around::walls_of` meets its contract: after i turns the walls of the first i boxes are stored.
use Rattle.std.proofs.Common.{◌≡◌, refl, arith, add-one}
use Rattle.point_scan.specs.Walls.{walls_of}
use Rattle.point_scan.proofs.around.walls_of.Goals as goal

pub loop-i-init : goal.loop-i-init
unfolding walls_of
loop-i-init c = refl

pub loop-i-preserved : goal.loop-i-preserved
unfolding walls_of
loop-i-preserved c = rw (c.walls_by.ensures, c.loop-i.invariant, add-one)

pub returns : goal.returns
returns c =
    let e : c.loop-i.i ≡ c.args.n = omega arith in
    rw e at c.loop-i.invariant
