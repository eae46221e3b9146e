-- `point_overlap::overlapping` meets its contract: the far corners, and the tests on each axis.
use Rattle.point_overlap.specs.Overlap.{overlapping}
use Rattle.point_overlap.proofs.overlapping.Goals as goal

pub returns : goal.returns
unfolding overlapping
returns c = rw (c.max_corner-qe.ensures, c.max_corner-pe.ensures)
