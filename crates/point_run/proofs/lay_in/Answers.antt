-- `point_run::lay_in` meets its contract: tables of this size have a cell for each box, and the boxes sorted are laid.
use Prim.Native.Nat.{ℕ}
use Rattle.std.proofs.lemmas.List.{length-replicate}
use Rattle.point_run.proofs.lay_in.Goals as goal

pub sort_boxes-requires : goal.sort_boxes-requires
sort_boxes-requires g c =
    let b = c.requires.1 in
    (c.requires.0, b, c.requires.2, rw (length-replicate g.row.BOXES _) b, rw (length-replicate {A = ℕ} g.row.BOXES 0) b)

pub lay_each-requires : goal.lay_each-requires
lay_each-requires g c = (c.sort_boxes.ensures, c.requires.3, c.requires.4)
