-- `point_order::spot` meets its contract: no box passed is of smaller volume.
use lib.ListN.{get_or}
use lib.Ieee.{nan}
use Rattle.point_order.specs.Insert.{Passed}
use Rattle.point_order.proofs.spot.Given as goal

abbrev pub invariant-loop-i : goal.invariant-loop-i
invariant-loop-i l = Passed (λ t. get_or l.volumes t nan) l.v l.places l.n l.i
