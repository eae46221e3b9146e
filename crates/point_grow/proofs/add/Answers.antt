-- `point_grow::add` meets its contract: by whether the point is kept.
use Rattle.point_grow.specs.Grow.{count_with, points_with}
use Rattle.point_grow.proofs.add.Goals as goal

pub returns-then-kept : goal.returns-then-kept
unfolding count_with points_with
returns-then-kept c = record { live_is = rw c.if-kept.true; points_are = rw c.if-kept.true }

pub returns : goal.returns
unfolding count_with points_with
returns c = record { live_is = rw c.if-kept.false; points_are = rw c.if-kept.false }
