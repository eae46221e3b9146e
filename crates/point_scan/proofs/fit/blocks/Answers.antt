-- `point_scan::fit::blocks` meets its contract: only a box among the first n is asked.
use mathlib.Core.Bool.{not}
use mathlib.Core.Path.{ap}
use borrow.Author.Tests.{lt-ltb, le-ltb}
use Rattle.point_scan.specs.Passes.{blocks}
use Rattle.point_scan.proofs.fit.blocks.Goals as goal

pub returns-then-hint-n : goal.returns-then-hint-n
unfolding blocks
returns-then-hint-n c = rw (le-ltb _ _ c.if-hint-n.true)

pub returns : goal.returns
unfolding blocks
returns c = rw (lt-ltb _ _ c.if-hint-n.false) (ap not c.apart_by.ensures)
