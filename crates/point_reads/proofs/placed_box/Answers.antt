-- `point_reads::placed_box` meets its contract: refused, none past the boxes, or the box as stored.
use Rattle.std.proofs.Common.{◌≡◌, ◌<◌, arith, lt-ltb, le-ltb}
use Rattle.std.proofs.Math.Bool.{false}
use Rattle.std.proofs.lemmas.Result.{err_from_is_err_and}
use Rattle.domain.specs.Bounds.{most_boxes}
use Rattle.domain.specs.Laws.{when_none}
use Rattle.domain.specs.Refusal.{refused_as, no_refusal, no_number}
use Rattle.point_state.specs.Boxes.{box_at}
use Rattle.point_state.specs.Counts.{over, within_counts}
use Rattle.point_reads.specs.Reads.{placed_at}
use Rattle.point_reads.proofs.placed_box.Goals as goal
use Rattle.point_reads.proofs.placed_box.Goals.{In_ok-within, Else-i-set}

pub returns-in_err-within : goal.returns-in_err-within
unfolding placed_at
returns-in_err-within c =
    let p = err_from_is_err_and c.from_residual.result c.from_residual.ensures.1 in
    rw (p.1, p.2) (refused_as _ 0 tt _ _ c.in_err-within.ensures)

pub returns-then-i-set : goal.returns-then-i-set
unfolding placed_at
returns-then-i-set c = rw (le-ltb _ _ c.if-i-set.true) (no_number _ 0 _ (no_refusal _ 0 tt tt c.in_ok-within.ensures))

fair : (c : In_ok-within) → over c.args.set ≡ false
fair c = when_none (over c.args.set) 1 (no_refusal _ 0 tt tt c.in_ok-within.ensures)

-- a box that is placed is in the stores
is_in : (c : Else-i-set) → over c.args.set ≡ false → c.args.i < most_boxes
is_in c e = let h = (within_counts _ _ e).room in omega arith

pub returns : goal.returns
unfolding placed_at box_at
returns c =
    rw (lt-ltb _ _ c.if-i-set.false) (no_number _ 0 _ (no_refusal _ 0 tt tt c.in_ok-within.ensures))

pub offset_bounds-set-i : goal.offset_bounds-set-i
offset_bounds-set-i c = let g = goal.at.offset_bounds-set-i c in let h = is_in g.Else-i-set (fair g.In_ok-within) in omega arith

pub bounds-set-i : goal.bounds-set-i
bounds-set-i c = let g = goal.at.bounds-set-i c in is_in g.Else-i-set (fair g.In_ok-within)

pub offset_bounds-set-i-2 : goal.offset_bounds-set-i-2
offset_bounds-set-i-2 c = let g = goal.at.offset_bounds-set-i-2 c in let h = is_in g.Else-i-set (fair g.In_ok-within) in omega arith

pub bounds-set-i-2 : goal.bounds-set-i-2
bounds-set-i-2 c = let g = goal.at.bounds-set-i-2 c in is_in g.Else-i-set (fair g.In_ok-within)
