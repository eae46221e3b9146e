-- `point_step::turns::pick` meets its contract: no orientation passed finds a point, and the one that ends the loop does.
use Rattle.std.proofs.Common.{◌≡◌, refl, sym, arith, rules}
use Rattle.point_step.specs.Pick.{pick_by, hints_by, pick_of, pick_hints, pick_at, pick_none, hints_more, hints_at}
use Rattle.point_step.proofs.turns.pick.Goals as goal

pub loop-o-init : goal.loop-o-init
unfolding pick_of pick_by pick_hints hints_by
loop-o-init c = (refl, refl, refl)

pub returns-in-Some : goal.returns-in-Some
unfolding pick_of pick_hints
returns-in-Some c =
    let l = c.loop-o in
    let s = c.scan.ensures in
    let e = c.dimensions_for_orientation-size.ensures in
    let f = rw (s.choice_is, e, l.invariant.0) at c.in-Some.is in
    record {
      pick_is = pick_at _ l.o _ _ (omega arith) l.invariant.1 f;
      hints_are = rw (s.hints_are, e, l.invariant.2) (sym (hints_at _ _ _ l.o _ _ (omega arith) l.invariant.1 f));
    }

pub loop-o-preserved : goal.loop-o-preserved
unfolding pick_of pick_hints
loop-o-preserved c =
    let l = c.loop-o in
    let s = c.scan.ensures in
    let e = c.dimensions_for_orientation-size.ensures in (
      search rules,
      pick_none _ l.o l.invariant.1 (rw (s.choice_is, e, l.invariant.0) at c.in_default.is),
      rw (s.hints_are, e, l.invariant.2) (sym (hints_more _ _ _ l.o l.invariant.1)),
    )

pub returns : goal.returns
returns c =
    let e : c.loop-o.o ≡ c.args.n = omega arith in
    record { pick_is = sym (rw e at c.loop-o.invariant.1); hints_are = rw e at c.loop-o.invariant.2 }
