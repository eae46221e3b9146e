-- `point_state::over_counts` meets its contract: the second bound is asked only where the first holds.
use borrow.Author.Tests.{lt-ltb, le-ltb}
use Rattle.point_state.specs.Counts.{over_counts}
use Rattle.point_state.proofs.over_counts.Goals as goal

pub returns-then-held-gt-MOST_BOXES : goal.returns-then-held-gt-MOST_BOXES
unfolding over_counts
returns-then-held-gt-MOST_BOXES c = rw (lt-ltb _ _ c.if-held-gt-MOST_BOXES.true)

pub returns : goal.returns
unfolding over_counts
returns c = rw (le-ltb _ _ c.if-held-gt-MOST_BOXES.false)
