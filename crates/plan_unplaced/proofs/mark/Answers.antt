-- `plan_unplaced::mark` meets its contract, by the test that led to each return: the spare mark is set already.
use Prim.Native.Nat.{◌<◌, ◌≤◌}
use mathlib.Core.Path.{◌≡◌, refl, sym, ◌∙◌}
use mathlib.Core.Bool.{Bool, true, false, not}
use mir.Val.{bool_byte}
use native.Mathlib.Omega.{arith}
use lib.Seq.{set-get_or}
use borrow.Author.Tests.{ltb-true}
use Rattle.domain.specs.Bounds.{most_lines}
use Rattle.lists.specs.Bools.{and_right}
use Rattle.plan_unplaced.specs.Marks.{mark_of, fresh_of}
use Rattle.plan_unplaced.proofs.mark.Goals as goal
use Rattle.plan_unplaced.proofs.mark.Goals.{Then-same-instance}

in_range : (c : Then-same-instance) → c.args.instance < c.args.quantity
in_range c = ltb-true c.args.instance c.args.quantity (and_right c.args.same _ c.if-same-instance.true)

pub bounds-seen-at : goal.bounds-seen-at
bounds-seen-at c = let h = in_range (goal.at.bounds-seen-at c).Then-same-instance in omega arith

pub bounds-seen-at-then-same-instance : goal.bounds-seen-at-then-same-instance
bounds-seen-at-then-same-instance c = let h = in_range (goal.at.bounds-seen-at-then-same-instance c).Then-same-instance in omega arith

-- 1 for an instance that was not seen before
one_of : (b : Bool) → bool_byte (not b) ≡ fresh_of b
one_of true = refl
one_of false = refl

few : (b : Bool) → bool_byte (not b) ≤ 1
few true = omega arith
few false = omega arith

pub returns-then-same-instance : goal.returns-then-same-instance
unfolding mark_of
returns-then-same-instance c =
    let e = c.from-r.ensures in
    rw c.if-same-instance.true (e ∙ one_of _, rw e (few _), refl)

pub returns : goal.returns
unfolding mark_of
returns c =
    let p = c.requires.1 in
    rw c.if-same-instance.false (rw p refl, omega arith, sym (rw p at (set-get_or c.args.seen.now most_lines false)))
