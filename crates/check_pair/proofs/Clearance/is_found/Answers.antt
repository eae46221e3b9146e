-- `Clearance::is_found` meets its contract: each return is one of the definition's cases.
use mathlib.Core.Path.{sym, ◌∙◌}
use Rattle.check_pair.proofs.Told.{found_overlap, found_close, found_far, found_root}
use Rattle.check_pair.proofs.Clearance.is_found.Goals as goal

pub returns-then-overlaps : goal.returns-then-overlaps
returns-then-overlaps c = found_overlap _ _ _ _ (rw c.gaps-g.ensures at (sym c.overlaps.ensures ∙ c.if-overlaps.true))

pub returns-then-s-close : goal.returns-then-s-close
returns-then-s-close c =
    let m = c.before in
    let e = m.before in
    let v = e.before in
    let g = v.gaps-g.ensures in
    found_close _ _ _ _ _ (rw g at m.sum_of-s.ensures) (rw g at (sym v.overlaps.ensures ∙ e.if-overlaps.false)) c.if-s-close.true

pub returns-then-far_enough : goal.returns-then-far_enough
returns-then-far_enough c =
    let f = c.before in
    let l = f.before in
    let m = l.before in
    let e = m.before in
    let v = e.before in
    let g = v.gaps-g.ensures in
    found_far _ _ _ _ _ (rw g at m.sum_of-s.ensures) (rw g at (sym v.overlaps.ensures ∙ e.if-overlaps.false)) l.if-s-close.false
    (rw g at (sym f.far_enough.ensures ∙ c.if-far_enough.true))

pub returns : goal.returns
returns c =
    let l = c.before.before.before in
    let m = l.before in
    let e = m.before in
    let v = e.before in
    let g = v.gaps-g.ensures in
    found_root _ _ _ _ _ _ (rw g at m.sum_of-s.ensures) c.sqrt.ensures (rw g at (sym v.overlaps.ensures ∙ e.if-overlaps.false)) l.if-s-close.false
