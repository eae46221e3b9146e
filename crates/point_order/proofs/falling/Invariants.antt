-- `point_order::falling` meets its contract: each turn puts the next box in.
use mathlib.Core.Path.{◌≡◌}
use lib.ListN.{length, get_or, take, drop}
use lib.Ieee.{nan}
use Rattle.point_order.specs.Order.{falling_of}
use Rattle.point_order.specs.Begin.{Last}
use Rattle.point_order.proofs.falling.Given as goal

abbrev pub invariant-loop-t : goal.invariant-loop-t
invariant-loop-t l =
    (take l.t l.places ≡ falling_of (λ u. get_or l.volumes u nan) l.t)
    × (length l.places ≡ length l.initial.places)
    × (drop l.t l.places ≡ drop l.t l.initial.places)
    × Last (λ u. get_or l.volumes u nan) l.places l.t l.last
