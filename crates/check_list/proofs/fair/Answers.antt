-- `fair` meets its contract, by the test that led to each return.
use Rattle.check_list.proofs.fair.Goals as goal

pub returns-then-over_count : goal.returns-then-over_count
returns-then-over_count c = rw (rw c.over_count.ensures at c.if-over_count.true)

pub returns : goal.returns
returns c = rw (rw c.over_count.ensures at c.if-over_count.false)
