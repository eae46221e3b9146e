-- `plan_unplaced::in_file::put_lines` meets its contract: each turn stores one line more.
use Prim.Native.Nat.{◌<◌}
use mathlib.Core.Path.{refl, ◌∙◌}
use native.Mathlib.Omega.{arith}
use native.Mathlib.Numerals.{add-one}
use Rattle.lists.specs.Table.{filled}
use Rattle.domain.specs.Bounds.{most_lines}
use Rattle.file_read.specs.Records.{bounds, line_is}
use Rattle.plan_unplaced.proofs.in_file.put_lines.Goals as goal
use Rattle.plan_unplaced.proofs.in_file.put_lines.Goals.{In-loop-i}

pub loop-i-init : goal.loop-i-init
unfolding filled
loop-i-init c = refl

-- a turn's line is among those that there may be
room : (c : In-loop-i) → c.loop-i.i < most_lines
room c =
    let e = c.requires.lines_are in
    let f = (bounds _ c.requires.can_read).lines in
    omega (arith, e, f)

pub loop-i-preserved : goal.loop-i-preserved
unfolding filled
loop-i-preserved c =
    let t = c.requires in
    let e = t.lines_are in
    rw (add-one, c.line_in.ensures ∙ line_is _ _ _ t.can_read t.start_is (omega (arith, e)), c.loop-i.invariant)

pub bounds-lines-i : goal.bounds-lines-i
bounds-lines-i c = room (goal.at.bounds-lines-i c).In-loop-i
