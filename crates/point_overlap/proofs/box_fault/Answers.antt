-- `point_overlap::box_fault` meets its contract: the six tests.
use Rattle.point_overlap.specs.Overlap.{box_fault}
use Rattle.point_overlap.proofs.box_fault.Goals as goal

pub returns : goal.returns
unfolding box_fault
returns c =
    let y_at = c.before in
    let x_at = y_at.before in
    let height = x_at.before in
    let depth = height.before in
    let width = depth.before in
    rw (c.is_position-3.ensures, y_at.is_position-2.ensures, x_at.is_position.ensures)
    (rw (height.is_length-3.ensures, depth.is_length-2.ensures, width.is_length.ensures))
