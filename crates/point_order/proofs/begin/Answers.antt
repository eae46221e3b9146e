-- `point_order::begin` meets its contract, by the tests that led to each return.
use native.Mathlib.Omega.{arith}
use borrow.Author.Tests.{eq-eqb, ne_eqb}
use Rattle.point_order.specs.Begin.{begin_of}
use Rattle.point_order.proofs.begin.Goals as goal

pub returns-then-t-eq0 : goal.returns-then-t-eq0
unfolding begin_of
returns-then-t-eq0 c = rw (eq-eqb _ 0 c.if-t-eq0.true)

pub returns-then-volumes-t : goal.returns-then-volumes-t
unfolding begin_of
returns-then-volumes-t c = rw (ne_eqb _ 0 c.if-t-eq0.false, c.if-volumes-t.true)

pub returns : goal.returns
unfolding begin_of
returns c = rw (ne_eqb _ 0 c.if-t-eq0.false, c.if-volumes-t.false)

pub offset_bounds-volumes-t : goal.offset_bounds-volumes-t
offset_bounds-volumes-t c = let v = c.requires.0 in omega (arith, v)

pub bounds-volumes-t : goal.bounds-volumes-t
bounds-volumes-t c = c.requires.0

pub overflow_sub-t : goal.overflow_sub-t
overflow_sub-t c = let n = c.if-t-eq0.false in omega (arith, n)

pub offset_bounds-volumes-t-2 : goal.offset_bounds-volumes-t-2
offset_bounds-volumes-t-2 c = let v = c.requires.0 in omega (arith, v)

pub bounds-volumes-t-2 : goal.bounds-volumes-t-2
bounds-volumes-t-2 c = let v = c.requires.0 in omega (arith, v)

pub overflow_add-result : goal.overflow_add-result
overflow_add-result c = let v = c.requires in omega (arith, v.0, v.1)
