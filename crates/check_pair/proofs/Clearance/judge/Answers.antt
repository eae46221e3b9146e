-- `Clearance::judge` meets its contract: each return is the definition's, and where no root was taken the distance is not below what is asked.
use mathlib.Core.Path.{sym, ◌∙◌}
use Rattle.check_pair.proofs.Verdicts.{at_overlap, at_far, at_close, at_apart}
use Rattle.check_pair.proofs.Clearance.judge.Goals as goal

pub returns-then-overlaps : goal.returns-then-overlaps
returns-then-overlaps c = at_overlap _ _ _ (rw c.gaps-g.ensures at (sym c.overlaps.ensures ∙ c.if-overlaps.true))

pub returns-then-far_enough : goal.returns-then-far_enough
returns-then-far_enough c =
    let g = c.gaps-g.ensures in
    at_far _ _ _ (rw g at (sym c.overlaps.ensures ∙ c.if-overlaps.false)) (rw g at (sym c.far_enough.ensures ∙ c.if-far_enough.true))

pub returns-then-d-least : goal.returns-then-d-least
returns-then-d-least c =
    let g = c.gaps-g.ensures in
    at_close _ _ _ _ (rw g at c.distance-d.ensures) (rw g at (sym c.overlaps.ensures ∙ c.if-overlaps.false)) c.if-d-least.true

pub returns : goal.returns
returns c =
    let g = c.gaps-g.ensures in
    at_apart _ _ _ (rw g at (sym c.overlaps.ensures ∙ c.if-overlaps.false)) (rw (rw g at c.distance-d.ensures) at c.if-d-least.false)
