-- `plan_unplaced::is_short` meets its contract. More than there may be lines are never all placed.
use mathlib.Core.Path.{sym}
use native.Mathlib.Omega.{arith}
use borrow.Author.Tests.{lt-ltb}
use Rattle.plan_unplaced.specs.Short.{is_short, distinct_placed}
use Rattle.plan_unplaced.specs.Distinct.{distinct_most}
use Rattle.plan_unplaced.proofs.is_short.Goals as goal

pub returns-then-quantity-gt-MOST_LINES : goal.returns-then-quantity-gt-MOST_LINES
unfolding is_short
returns-then-quantity-gt-MOST_LINES c =
    let a = c.args in
    let m = distinct_most a.lines.now a.n a.id a.quantity in
    sym (lt-ltb (distinct_placed a.lines.now a.n a.id a.quantity) a.quantity (omega arith))

pub returns : goal.returns
unfolding is_short
returns c = rw c.distinct_placed.ensures
