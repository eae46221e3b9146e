-- `plan_unplaced::push_if` meets its contract, by the test that led to each return.
use Rattle.plan_unplaced.specs.Left.{push_if}
use Rattle.plan_unplaced.proofs.push_if.Goals as goal

pub returns-then-short : goal.returns-then-short
unfolding push_if
returns-then-short c = rw c.if-short.true

pub returns : goal.returns
unfolding push_if
returns c = rw c.if-short.false
