-- `point_scan::fit::fit` meets its contract: the box is in the room, and no placed box blocks it.
use Rattle.point_scan.specs.Passes.{hint_after, block_all}
use Rattle.point_scan.proofs.fit.fit.Goals as goal

pub returns-then-not-in_room : goal.returns-then-not-in_room
unfolding hint_after
returns-then-not-in_room c =
    let e = rw (c.in_room.ensures, c.sum3-far.ensures) at c.if-not-in_room.true in
    record { passes_is = rw e; block_is = rw e }

pub returns : goal.returns
unfolding hint_after
returns c =
    let e = rw (c.in_room.ensures, c.sum3-far.ensures) at c.if-not-in_room.false in
    record {
      passes_is = rw (c.from.ensures, c.some_block-block.ensures, e, c.sum3-far.ensures) (block_all _ _ _ _ _);
      block_is = rw (e, ← c.sum3-far.ensures) c.some_block-block.ensures;
    }
