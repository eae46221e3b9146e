-- `point_order::spot` meets its contract: no box passed is of smaller volume.
use lib.ListN.{get_or}
use lib.Ieee.{nan}
use mathlib.Core.Path.{◌≡◌}
use native.Mathlib.Omega.{arith}
use Rattle.point_order.specs.Insert.{scan_here, scan_on, scan_all}
use Rattle.point_order.specs.Begin.{scan_from}
use Rattle.point_order.proofs.spot.Goals as goal

pub loop-i-init : goal.loop-i-init
loop-i-init c =
    let h = c.requires.1 in
    let a = c.args in
    scan_from (λ t. get_or a.volumes.now t nan) a.v a.places.now a.n a.from h c.requires.0.long c.requires.2

pub returns-then-volumes-t : goal.returns-then-volumes-t
returns-then-volumes-t c =
    let b = c.before.before.before.before in
    let a = b.args in
    let l = b.loop-i in
    scan_here (λ t. get_or a.volumes.now t nan) a.v a.places.now a.n l.i (omega arith) b.requires.0.long l.invariant c.if-volumes-t.true

pub loop-i-preserved : goal.loop-i-preserved
loop-i-preserved c =
    let b = c.before.before.before.before in
    let a = b.args in
    let l = b.loop-i in
    scan_on (λ t. get_or a.volumes.now t nan) a.v a.places.now a.n l.i (omega arith) b.requires.0.long l.invariant c.if-volumes-t.false

pub returns : goal.returns
returns c =
    let a = c.args in
    let e : c.loop-i.i ≡ a.n = omega arith in
    scan_all (λ t. get_or a.volumes.now t nan) a.v a.places.now a.n (rw e at c.loop-i.invariant)
