-- `pair::counted` meets its contract, by its test.
use Rattle.check_list.proofs.pair.counted.Goals as goal

pub returns-then-on : goal.returns-then-on
returns-then-on c = rw c.if-on.true

pub returns : goal.returns
returns c = rw c.if-on.false
