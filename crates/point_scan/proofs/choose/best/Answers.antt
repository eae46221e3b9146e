-- `point_scan::choose::best` meets its contract: none where the counts are over the bounds, else the scan by the walls, which makes the same choice.
use mathlib.Core.Path.{◌≡◌, sym, ◌∙◌}
use mathlib.Core.Bool.{false}
use native.Mathlib.Omega.{arith}
use Rattle.point_state.specs.Counts.{over, Within, within_counts}
use Rattle.point_scan.specs.Walls.{best_in, walls_walled, walled_best}
use Rattle.point_scan.proofs.choose.best.Goals as goal
use Rattle.point_scan.proofs.choose.best.Goals.{Else-over_counts}

pub returns-then-over_counts : goal.returns-then-over_counts
unfolding best_in
returns-then-over_counts c = rw (sym c.over_counts.ensures ∙ c.if-over_counts.true)

fair : (c : Else-over_counts) → over c.args.set ≡ false
fair c = sym c.over_counts.ensures ∙ c.if-over_counts.false

in_bounds : (c : Else-over_counts) → let a = c.args in Within a.set.live a.set.held
in_bounds c = within_counts _ _ (fair c)

pub scan_in-requires : goal.scan_in-requires
scan_in-requires c = let h = in_bounds (goal.at.scan_in-requires c).Else-over_counts in let r = h.room in let f = h.few in (h.room, omega arith, omega arith, omega arith)

pub returns : goal.returns
unfolding best_in
returns c =
    let a = c.args in
    let e = (goal.at.returns c).Else-over_counts in
    rw (fair e) (c.scan_in.ensures.choice_is
    ∙ rw (c.room_of.ensures, c.walls_of-walls.ensures) (walled_best a.set _ a.size (walls_walled _ _ _ (in_bounds e).room)))

pub walls_of-walls-requires : goal.walls_of-walls-requires
walls_of-walls-requires c = let h = (in_bounds (goal.at.walls_of-walls-requires c).Else-over_counts).room in (h, omega arith)
