-- `pair::close_of` meets its contract, by its test.
use Rattle.check_list.proofs.pair.close_of.Goals as goal

pub returns-then-counts : goal.returns-then-counts
returns-then-counts c = rw c.if-counts.true c.close.ensures

pub returns : goal.returns
returns c = rw c.if-counts.false
