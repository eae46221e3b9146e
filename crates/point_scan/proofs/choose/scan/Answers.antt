-- `point_scan::choose::scan` meets its contract: none where the counts are over the bounds, else the scan.
use mathlib.Core.Path.{sym, ◌∙◌}
use Rattle.point_scan.specs.Walls.{scanned_of, hints_in, in_stores}
use Rattle.point_scan.proofs.choose.scan.Goals as goal

pub returns-then-over_stores : goal.returns-then-over_stores
unfolding scanned_of hints_in
returns-then-over_stores c =
    let e = sym c.over_stores.ensures ∙ c.if-over_stores.true in
    record { choice_is = rw e; hints_are = rw e }

pub scan_in-requires : goal.scan_in-requires
scan_in-requires c =
    let h = in_stores _ _ _ _ _ (sym c.over_stores.ensures ∙ c.if-over_stores.false) in
    (h.counts.room, h.walls_in_lem, h.points_in, h.hints_in_lem)

pub returns : goal.returns
unfolding scanned_of hints_in
returns c =
    let p = c.before.before in
    let b = p.before.before in
    let e = sym b.over_stores.ensures ∙ b.if-over_stores.false in
    record { choice_is = rw e p.scan_in.ensures.choice_is; hints_are = rw e p.scan_in.ensures.hints_are }
