-- `point_fit::buries` meets its contract: the six tests of the definition, asked of z, then y, then x, the far side of each first.
use mathlib.Core.Path.{◌≡◌, refl, sym, ◌∙◌}
use mathlib.Core.Bool.{Bool, true, false, not}
use Rattle.point_fit.proofs.Height.{buries_by_height}
use Rattle.point_fit.proofs.buries.Goals as goal

not_not : (b : Bool) → not (not b) ≡ b
not_not true = refl
not_not false = refl

pub returns-then-not-at-near : goal.returns-then-not-at-near
returns-then-not-at-near c = sym (buries_by_height _ _ _ ∙ rw c.if-not-at-near.true-raw)

pub returns-then-not-at-near-2 : goal.returns-then-not-at-near-2
returns-then-not-at-near-2 c = sym (buries_by_height _ _ _ ∙ rw (c.if-not-at-near.false-raw, c.if-not-at-near-2.true-raw))

pub returns-then-not-at-near-3 : goal.returns-then-not-at-near-3
returns-then-not-at-near-3 c = sym (buries_by_height _ _ _ ∙ rw (c.if-not-at-near.false-raw, c.if-not-at-near-2.false-raw, c.if-not-at-near-3.true-raw))

pub returns-then-not-at-near-4 : goal.returns-then-not-at-near-4
returns-then-not-at-near-4 c =
    let b = c.before in
    sym (buries_by_height _ _ _ ∙ rw (b.if-not-at-near.false-raw, b.if-not-at-near-2.false-raw, b.if-not-at-near-3.false-raw, c.if-not-at-near-4.true-raw))

pub returns-then-not-at-near-5 : goal.returns-then-not-at-near-5
returns-then-not-at-near-5 c =
    let b = c.before in
    let d = b.before.before in
    sym (buries_by_height _ _ _ ∙ rw (d.if-not-at-near.false-raw, d.if-not-at-near-2.false-raw, b.if-not-at-near-3.false-raw, b.if-not-at-near-4.false-raw, c.if-not-at-near-5.true-raw))

pub returns : goal.returns
returns c =
    let b = c.before in
    let d = b.before.before in
    sym (buries_by_height _ _ _ ∙ rw (d.if-not-at-near.false-raw, d.if-not-at-near-2.false-raw, b.if-not-at-near-3.false-raw, b.if-not-at-near-4.false-raw, c.if-not-at-near-5.false-raw, not_not))
