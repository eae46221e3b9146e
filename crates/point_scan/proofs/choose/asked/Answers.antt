-- `point_scan::choose::asked` meets its contract: against the point chosen, if there is one.
use Rattle.point_scan.specs.Choose.{asked}
use Rattle.point_scan.proofs.choose.asked.Goals as goal

pub bounds-points-k : goal.bounds-points-k
bounds-points-k c = c.requires _ c.in-Some.is

pub returns-in-Some : goal.returns-in-Some
unfolding asked
returns-in-Some c = rw (c.in-Some.is, c.sooner.ensures)

pub returns-in-None : goal.returns-in-None
unfolding asked
returns-in-None c = rw c.in-None.is
