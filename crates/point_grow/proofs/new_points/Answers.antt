-- `point_grow::new_points` meets its contract: each of the three points by the same test.
use Rattle.point_grow.specs.Grow.{corners_of}
use Rattle.point_grow.proofs.new_points.Goals as goal

pub returns : goal.returns
unfolding corners_of
returns c =
    let e = c.before.before.before in
    rw (c.valid-alongz.ensures, c.valid-alongy.ensures, c.valid-alongx.ensures, e.ends_of-ends.ensures, e.past_of-past.ensures)
