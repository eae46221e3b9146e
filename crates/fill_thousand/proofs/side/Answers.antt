-- `fill_thousand::side` meets its contract, on each side of the test.
use Rattle.std.proofs.Common.{zero-le}
use Rattle.fill_thousand.specs.Sides.{side_of}
use Rattle.fill_thousand.proofs.side.Goals as goal

pub whole_or_none-requires : goal.whole_or_none-requires
whole_or_none-requires c = c.if-v.true

pub returns-then-v : goal.returns-then-v
unfolding side_of
returns-then-v c = record { value = rw c.if-v.true c.whole_or_none.ensures.value; most = c.whole_or_none.ensures.most }

pub returns : goal.returns
unfolding side_of
returns c = record { value = rw c.if-v.false; most = zero-le }
