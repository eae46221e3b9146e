-- `point_fit::apart` meets its contract: the six tests of the definition, asked of z, then y, then x.
use mathlib.Core.Path.{sym, ◌∙◌}
use Rattle.point_fit.proofs.Height.{apart_by_height}
use Rattle.point_fit.proofs.apart.Goals as goal

pub returns-then-at-a : goal.returns-then-at-a
returns-then-at-a c = sym (apart_by_height _ _ _ _ ∙ rw c.if-at-a.true)

pub returns-then-far-b : goal.returns-then-far-b
returns-then-far-b c = sym (apart_by_height _ _ _ _ ∙ rw (c.if-at-a.false, c.if-far-b.true))

pub returns-then-at-a-2 : goal.returns-then-at-a-2
returns-then-at-a-2 c = sym (apart_by_height _ _ _ _ ∙ rw (c.if-at-a.false, c.if-far-b.false, c.if-at-a-2.true))

pub returns-then-far-b-2 : goal.returns-then-far-b-2
returns-then-far-b-2 c =
    let b = c.before in
    sym (apart_by_height _ _ _ _ ∙ rw (b.if-at-a.false, b.if-far-b.false, b.if-at-a-2.false, c.if-far-b-2.true))

pub returns-then-at-a-3 : goal.returns-then-at-a-3
returns-then-at-a-3 c =
    let b = c.before in
    let d = b.before.before in
    sym (apart_by_height _ _ _ _ ∙ rw (d.if-at-a.false, d.if-far-b.false, b.if-at-a-2.false, b.if-far-b-2.false, c.if-at-a-3.true))

pub returns : goal.returns
returns c =
    let b = c.before in
    let d = b.before.before in
    sym (apart_by_height _ _ _ _ ∙ rw (d.if-at-a.false, d.if-far-b.false, b.if-at-a-2.false, b.if-far-b-2.false, c.if-at-a-3.false))
