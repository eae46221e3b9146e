-- `point_grow::valid` meets its contract: the boxes are asked only of a point that is below the ends.
use mathlib.Core.Bool.{◌&&◌}
use borrow.Author.Tests.{not-true, not-false}
use Rattle.point_grow.specs.Grow.{valid}
use Rattle.point_grow.proofs.valid.Goals as goal

pub returns-then-not-short-below_ends : goal.returns-then-not-short-below_ends
unfolding valid
returns-then-not-short-below_ends c = rw (rw c.below_ends.ensures at (not-true (c.args.short && c.below_ends.result) c.if-not-short-below_ends.true-raw))

pub returns : goal.returns
unfolding valid
returns c = rw (c.free.ensures, rw c.below_ends.ensures at (not-false (c.args.short && c.below_ends.result) c.if-not-short-below_ends.false-raw))
