-- `point_scan::around::put_walls` meets its contract: nothing past either store, else the walls of the box as read.
use Rattle.std.proofs.Common.{lt-ltb, le-ltb}
use Rattle.std.proofs.lemmas.List.{set_past}
use Rattle.point_scan.specs.Walls.{walls_in, walls_in_lem}
use Rattle.point_scan.proofs.around.put_walls.Goals as goal

pub returns-then-i-boxes : goal.returns-then-i-boxes
unfolding walls_in
returns-then-i-boxes c = rw (le-ltb _ _ c.if-i-boxes.true)

pub returns-then-i-walls : goal.returns-then-i-walls
unfolding walls_in
returns-then-i-walls c = let a = c.args in rw (lt-ltb _ _ c.if-i-boxes.false, set_past a.walls.now a.i _ c.if-i-walls.true)

pub returns : goal.returns
returns c = rw (walls_in_lem _ _ _ _ c.if-i-boxes.false, c.walls_by.ensures)
