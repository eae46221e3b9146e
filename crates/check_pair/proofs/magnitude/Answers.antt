-- `check_pair::magnitude` meets its contract, by the test that led to each return.
use Rattle.check_pair.proofs.magnitude.Goals as goal

pub returns-then-x : goal.returns-then-x
returns-then-x c = rw c.if-x.true

pub returns : goal.returns
returns c = rw c.if-x.false
