-- `point_run::sort_boxes` meets its contract: the boxes listed and sorted are ready to be laid.
use native.Mathlib.Omega.{arith}
use Rattle.std.proofs.lemmas.List.{length-replicate}
use Rattle.plan_boxes.specs.Files.{in_file}
use Rattle.point_run.specs.Boxes.{ready}
use Rattle.point_run.proofs.sort_boxes.Goals as goal

pub list_boxes-requires : goal.list_boxes-requires
list_boxes-requires g c =
    let q = c.requires.0 in (
      in_file _ _ q.can_read q.right (let e = q.all_is in omega (arith, e)),
      c.requires.3,
      rw (length-replicate g.row.BOXES _) c.requires.1,
    )

pub returns : goal.returns
returns g c =
    ready c.args.f.now _ _ c.requires.0 _ _ _ c.requires.3 (rw (length-replicate g.row.BOXES _) c.requires.1) c.requires.4 _ _ _ c.list_boxes.ensures
    c.falling.ensures
