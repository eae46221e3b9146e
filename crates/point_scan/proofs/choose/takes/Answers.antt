-- `point_scan::choose::takes` meets its contract: the point does not stand before the choice, or the fit test decides.
use Rattle.point_scan.specs.Choose.{takes}
use Rattle.point_scan.specs.Walls.{hints_with}
use Rattle.point_scan.proofs.choose.takes.Goals as goal

pub returns-then-not-asked : goal.returns-then-not-asked
unfolding takes hints_with
returns-then-not-asked c =
    let e = rw c.asked.ensures at c.if-not-asked.true in
    record { takes_is = rw e; hints_are = rw e }

pub returns : goal.returns
unfolding takes hints_with
returns c =
    let e = rw c.asked.ensures at c.if-not-asked.false in
    record {
      takes_is = rw (c.fit-f.ensures.passes_is, e);
      hints_are = rw (c.fit-f.ensures.block_is, e);
    }
