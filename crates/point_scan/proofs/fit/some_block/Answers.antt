-- `point_scan::fit::some_block` meets its contract: the box of the hint, or the first that is not apart.
use mathlib.Core.Path.{sym, ◌∙◌}
use native.Mathlib.Omega.{arith}
use Rattle.point_scan.specs.Passes.{block_of, first_le}
use Rattle.point_scan.proofs.fit.some_block.Goals as goal

pub returns-then-blocks : goal.returns-then-blocks
unfolding block_of
returns-then-blocks c = rw (rw c.from.ensures at (sym c.blocks-2.ensures ∙ c.if-blocks.true))

pub overflow_cast-result : goal.overflow_cast-result
overflow_cast-result c =
    let a = c.args in
    let h = first_le a.walls.now a.n a.at a.far in
    let e = c.first_block.ensures in
    omega arith

pub returns : goal.returns
unfolding block_of
returns c = rw (rw c.from.ensures at (sym c.blocks-2.ensures ∙ c.if-blocks.false)) c.first_block.ensures
