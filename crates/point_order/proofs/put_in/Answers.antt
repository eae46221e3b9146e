-- `point_order::put_in` meets its contract: the places are moved one on, and n is put where the first of them stood.
use Rattle.point_order.specs.Insert.{copied_moved, moved_opened}
use Rattle.point_order.proofs.put_in.Goals as goal

pub returns : goal.returns
returns c =
    let a = c.args in
    rw (c.copy_within.ensures.after, copied_moved a.places.now a.at a.n c.requires.0) (moved_opened a.places.now a.at a.n c.requires.0 c.requires.1)
